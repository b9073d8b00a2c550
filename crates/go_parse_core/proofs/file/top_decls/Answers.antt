use Rattle.std.proofs.lemmas.Result.{err_from_is_err_and}
use Rattle.go_parse_core.proofs.FileSound.{top_shorter}
use Rattle.go_parse_core.proofs.CodeFiles.{tops_none, tops_more, tops_fails, tops_end}
use Rattle.go_parse_core.proofs.file.top_decls.Goals as goal

pub turns-init : goal.turns-init
turns-init c = rw c.new-all.ensures.items (tops_none _ _)

pub returns-in_err-decl : goal.returns-in_err-decl
returns-in_err-decl c =
    let p = err_from_is_err_and c.from_residual.result c.from_residual.ensures.1 in
    rw (p.1, p.2) (tops_fails _ _ _ _ _ c.turns.invariant c.turns-test.ensures c.in_err-decl.ensures)

pub turns-smaller : goal.turns-smaller
turns-smaller c = top_shorter _ _ _ c.in_ok-decl.ensures

pub turns-preserved : goal.turns-preserved
turns-preserved c =
    tops_more _ _ _ _ _ _ _ c.turns.invariant c.turns-test.ensures c.in_ok-decl.ensures c.in_ok-add.ensures

pub returns : goal.returns
returns c = rw c.fitted.ensures (tops_end _ _ _ _ c.turns.invariant c.turns-test.ensures)
