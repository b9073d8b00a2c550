use Rattle.std.proofs.Common.{arith, length, ◌∙◌}
use Rattle.std.proofs.lemmas.Result.{err_from_is_err_and}
use Rattle.go_tree_nodes.specs.Shapes.{shape}
use Rattle.go_parse_reader.proofs.ExprsCodeExprLists.{exprs_start_fails, exprs_first, first_shorter}
use Rattle.go_parse_reader.proofs.exprs.expr_list.exprs.Goals as goal

pub returns-in_err-first-clause-tree : goal.returns-in_err-first-clause-tree
returns-in_err-first-clause-tree c =
    let p = err_from_is_err_and c.from_residual.result c.from_residual.ensures.1 in
    rw (p.1, p.2) (exprs_start_fails _ _ _ _ c.in_err-first.ensures.tree)

pub returns-in-Err-clause-tree : goal.returns-in-Err-clause-tree
returns-in-Err-clause-tree c =
    let less = first_shorter _ _ _ _ _ c.in_ok-first.ensures.tree in
    rw (exprs_first c.args.budget c.args.header c.args.ahead c.in_ok-first.rest (shape c.in_ok-first.first) c.in_ok-first.ensures.tree) (c.in-Err.ensures.tree c.in_ok-first.first (length c.args.ahead) less)

pub returns-in-Ok-clause-tree : goal.returns-in-Ok-clause-tree
returns-in-Ok-clause-tree c =
    let less = first_shorter _ _ _ _ _ c.in_ok-first.ensures.tree in
    exprs_first _ _ _ _ _ c.in_ok-first.ensures.tree ∙ c.in-Ok.ensures.tree c.in_ok-first.first (length c.args.ahead) less

pub returns-in-Ok-clause-height : goal.returns-in-Ok-clause-height
returns-in-Ok-clause-height c =
    (omega (arith, c.in_ok-first.ensures.height.0, c.in-Ok.ensures.height.0 c.in_ok-first.first, c.max.ensures), omega (arith, c.in_ok-first.ensures.height.1, c.in-Ok.ensures.height.1, c.max.ensures))
