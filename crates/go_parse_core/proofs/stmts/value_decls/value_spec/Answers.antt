use Rattle.std.proofs.Common.{sym}
use Rattle.go_parse_core.proofs.StmtsCodeValues.{spec_missing, spec_fails, spec_is}
use Rattle.go_parse_core.proofs.stmts.value_decls.value_spec.Goals as goal

pub returns-then-not-is_enough : goal.returns-then-not-is_enough
returns-then-not-is_enough c =
    spec_missing c.args.budget c.args.kind c.args.ahead _ _ _ _ c.in_ok-names.ensures c.in_ok-type_expr.ensures (sym c.if-not-is_enough.ensures)

pub returns-in-Err : goal.returns-in-Err
returns-in-Err c =
    spec_fails c.args.budget c.args.kind c.args.ahead _ _ _ _ _ c.in_ok-names.ensures c.in_ok-type_expr.ensures c.in-Err.ensures

pub returns-in-Ok : goal.returns-in-Ok
returns-in-Ok c =
    spec_is c.args.budget c.args.kind c.args.ahead _ _ _ _ _ _ c.in_ok-names.ensures c.in_ok-type_expr.ensures (sym c.if-not-is_enough.ensures) c.in-Ok.ensures
