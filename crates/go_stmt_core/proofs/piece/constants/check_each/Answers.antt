use Rattle.std.proofs.Common.{◌++◌, ◌∷◌, map, ap, refl, ◌∙◌, sym, []}
use Rattle.go_tree_nodes.specs.Shapes.{exprs_from}
use Rattle.go_expr_core.proofs.TypeTurns.{step}
use Rattle.go_stmt_core.specs.piece.Specifications.{constant_value}
use Rattle.go_stmt_core.proofs.PieceListing.{list_begins}
use Rattle.go_stmt_core.proofs.PieceTurns.{constant_turn}
use Rattle.go_stmt_core.proofs.piece.constants.check_each.Goals as goal

pub loop-argument-preserved : goal.loop-argument-preserved
loop-argument-preserved g c =
    let rules = g.E.TypeLooks.types c.args.env.now in
    let xs = c.args.given.now in
    let i = c.loop-argument.argument-index in
    let x = c.argument-item.result in
    let written = c.args.written.now in
    record {
      made = step (map (constant_value rules written)) (λ y. constant_value rules written y ∷ []) (λ y ys. refl) xs i x c.loop-argument-test.true c.argument-item.is _ _
          (c.in_ok-push.ensures.items ∙ ap (λ v. c.loop-argument.all.items ++ v ∷ []) c.in_ok-value.ensures.value) ∙ c.loop-argument.invariant.made;
      noted = constant_turn rules written c.args.first c.start.result (exprs_from c.loop-argument.expr.now c.loop-argument.more.now) _ xs i x _ _ c.loop-argument-test.true c.argument-item.is
          (c.start.ensures ∙ sym (list_begins c.loop-argument.expr.now c.loop-argument.more.now)) c.behind.ensures c.in_ok-value.ensures.faults ∙ c.loop-argument.invariant.noted;
    }
