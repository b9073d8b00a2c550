use Rattle.std.proofs.lemmas.Result.{err_from_is_err_and}
use Rattle.go_parse_core.proofs.StmtsCodeSpecs.{type_spec_is, type_spec_fails}
use Rattle.go_parse_core.proofs.stmts.type_decls.type_spec.Goals as goal

pub returns-in_err-type_expr : goal.returns-in_err-type_expr
returns-in_err-type_expr c =
    let p = err_from_is_err_and c.from_residual-in_err-type_expr.result c.from_residual-in_err-type_expr.ensures.1 in
    rw (p.1, p.2) (type_spec_fails c.args.budget c.args.ahead _ _ _ _ _ c.in_ok-name.ensures c.some_mark-alias.ensures c.in_err-type_expr.ensures)

pub returns : goal.returns
returns c = type_spec_is c.args.budget c.args.ahead _ _ _ _ _ _ c.in_ok-name.ensures c.some_mark-alias.ensures c.in_ok-type_expr.ensures
