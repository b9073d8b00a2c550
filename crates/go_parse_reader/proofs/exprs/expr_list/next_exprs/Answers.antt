use Rattle.std.proofs.Common.{arith, refl, sym, ap, ◌∙◌, Ok}
use Rattle.std.proofs.lemmas.Result.{err_from_is_err_and}
use Rattle.go_tree_nodes.specs.Shapes.{exprs_from}
use Rattle.go_parse_reader.proofs.ExprsCodeExprLists.{exprs_start, exprs_more, exprs_fails, exprs_end, next_shorter, high_none, high_after}
use Rattle.go_parse_reader.proofs.exprs.expr_list.next_exprs.Goals as goal

pub turns-init : goal.turns-init
turns-init c =
    record { few = omega arith; low = omega arith; high = λ first. high_none first _ c.new-more.ensures.items; so_far = λ first turns some. exprs_start _ _ _ _ _ _ c.new-more.ensures.items some }

pub turns-smaller : goal.turns-smaller
turns-smaller c = next_shorter _ _ _ _ _ c.in-Some.ensures c.in_ok-expr.ensures.tree

pub turns-preserved : goal.turns-preserved
turns-preserved c =
    record { few = omega arith; low = omega (arith, c.in_ok-expr.ensures.height.1); high = λ first. high_after _ _ _ _ _ _ _ (c.turns.invariant.high first) c.in_ok-expr.ensures.height.0 c.in_ok-add.ensures c.max-high.ensures; so_far = λ first turns some. exprs_more _ _ _ _ _ _ _ _ _ _ (c.turns.invariant.so_far first turns some) c.in-Some.ensures c.in_ok-expr.ensures.tree refl c.in_ok-add.ensures }

pub returns-in_err-expr-clause-tree : goal.returns-in_err-expr-clause-tree
returns-in_err-expr-clause-tree c first turns some =
    let p = err_from_is_err_and c.from_residual.result c.from_residual.ensures.1 in
    rw (p.1, p.2) (exprs_fails _ _ _ _ _ _ _ _ (c.turns.invariant.so_far first turns some) c.in-Some.ensures c.in_err-expr.ensures.tree)

pub returns-clause-tree : goal.returns-clause-tree
returns-clause-tree c first turns some =
    exprs_end _ _ _ _ _ _ (c.turns.invariant.so_far first turns some) c.in_default.ensures ∙ ap (λ l. Ok (exprs_from first l, c.turns.rest)) (sym c.fitted.ensures)
