use Rattle.std.proofs.Common.{refl}
use Rattle.std.proofs.lemmas.Result.{err_from_is_err_and}
use Rattle.go_parse_core.proofs.CodeImports.{imports_none, imports_more, imports_end, semicolon_fails, specs_fails, turn_shorter}
use Rattle.go_parse_core.proofs.imports.imports.Goals as goal

pub turns-init : goal.turns-init
turns-init c = rw c.new-all.ensures.items (imports_none _)

pub returns-in_err-specs : goal.returns-in_err-specs
returns-in_err-specs c =
    let p = err_from_is_err_and c.from_residual.result c.from_residual.ensures.1 in
    rw (p.1, p.2) (specs_fails _ _ _ _ _ c.turns.invariant c.in-Some.ensures c.in_err-specs.ensures)

pub returns-in-Err : goal.returns-in-Err
returns-in-Err c = semicolon_fails _ _ _ _ _ _ c.turns.invariant c.in-Some.ensures c.in_ok-specs.ensures c.in-Err.ensures.value

pub turns-smaller : goal.turns-smaller
turns-smaller c = turn_shorter _ _ _ _ c.in-Some.ensures c.in_ok-specs.ensures c.in-Ok.ensures.value

pub turns-preserved : goal.turns-preserved
turns-preserved c =
    imports_more _ _ _ _ _ _ _ _ c.turns.invariant c.in-Some.ensures c.in_ok-specs.ensures c.in-Ok.ensures.value refl c.in_ok-add.ensures

pub returns : goal.returns
returns c = rw c.fitted.ensures (imports_end _ _ _ c.turns.invariant c.in_default.ensures)
