use Rattle.std.proofs.Common.{sym, subst, arith}
use Rattle.go_package_core.specs.summary_core.Views.{PathsAreApart}
use Rattle.go_complete_core.proofs.ViewsEnough.{apart}
use Rattle.go_complete_core.proofs.ViewsKeeping.{kept_are, kept_more}
use Rattle.go_complete_core.proofs.views.view.told_by_imports.Goals as goal

pub loop-number-preserved : goal.loop-number-preserved
loop-number-preserved c =
    kept_more c.in_ok-paths.paths.keys c.reached-reached.result.now c.loop-number.number c.in-Some.summary.now c.loop-number.told.items c.add_if_imported.new.kept.items (sym c.in-Some.ensures) c.loop-number.invariant c.in_ok-add_if_imported-in-Some.ensures

pub returns-clause-told : goal.returns-clause-told
returns-clause-told c =
    kept_are c.in_ok-paths.paths.keys c.args.input.now _ c.reached-reached.result.now c.loop-number.told.items c.loop-number.number c.in_ok-paths.ensures c.imports.ensures.value c.reached-reached.ensures.value
    (omega (arith, c.loop-number-test.false, c.len-number-end.ensures.value)) c.loop-number.invariant

pub returns-clause-apart : goal.returns-clause-apart
returns-clause-apart c = subst PathsAreApart (sym (returns-clause-told c)) (apart c.args.input.now c.reached-reached.ensures.well)
