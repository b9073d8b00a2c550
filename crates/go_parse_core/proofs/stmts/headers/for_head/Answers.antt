use Rattle.std.proofs.Common.{sym}
use Rattle.std.proofs.lemmas.Result.{err_from_is_err_and}
use Rattle.go_parse_reader.proofs.TypesCodeSteps.{none_of}
use Rattle.go_parse_core.proofs.StmtsCodeHeads.{for_is, for_fails}
use Rattle.go_parse_core.proofs.stmts.headers.for_head.Goals as goal

pub returns-in_err-init : goal.returns-in_err-init
returns-in_err-init c =
    let p = err_from_is_err_and c.from_residual-in_err-init.result c.from_residual-in_err-init.ensures.1 in
    rw (p.1, p.2) (for_fails c.args.budget c.args.ahead _ _ _ (none_of _ _ (sym c.if-is_some.ensures) c.mark.ensures) (none_of _ _ (sym c.if-is_some-2.ensures) c.mark-2.ensures) c.in_ok-front.ensures.tree (none_of _ _ (sym c.if-is_some-3.ensures) c.mark-3.ensures) c.in_err-init.ensures)

pub returns : goal.returns
returns c =
    rw (for_is c.args.budget c.args.ahead _ _ _ _ (none_of _ _ (sym c.if-is_some.ensures) c.mark.ensures) (none_of _ _ (sym c.if-is_some-2.ensures) c.mark-2.ensures) c.in_ok-front.ensures.tree (none_of _ _ (sym c.if-is_some-3.ensures) c.mark-3.ensures) c.in_ok-init.ensures) c.behind_init-2.ensures
