use Rattle.std.proofs.Common.{List, map, ap, sym, ◌∙◌}
use Rattle.std.specs.Prelude.{option_map}
use Rattle.go_object_core.specs.Objects.{object_shown}
use Rattle.go_diagnostic_core.specs.snap_core.declared.fault.PlacedFault.{PlacedFault}
use Rattle.govisd_folders.specs.runs.Answers.{is_clean}
use Rattle.govisd_folders.proofs.RunsRunLemmas.{clean_run, faults_told}
use Rattle.govisd_folders.proofs.runs.running.run_snapshot.Goals as goal

pub returns-then-clean : goal.returns-then-clean
returns-then-clean c =
    clean_run c.run_main.result c.args.order.now.folder.now (c.args.scope.now.package.now, c.args.scope.now.file.now) (option_map (λ m. m.now) c.args.order.now.main_path) c.args.order.now.steps _ c.args.module_path.now _ c.args.snapshot.now.sources _ c.args.snapshot.now.parts c.args.snapshot.now.faults c.args.notes.now c.args.passed.now
    (ap (λ (fs : List PlacedFault). is_clean fs c.args.notes.now) (sym c.faults.ensures) ∙ (sym c.is_clean-clean.ensures ∙ c.if-clean.true)) c.sources.ensures.value (ap (map object_shown) c.deref.ensures.value ∙ c.in_ok-objects.ensures) c.run_main.ensures

pub returns : goal.returns
returns c =
    faults_told c.tell_faults.result c.args.order.now.folder.now (c.args.scope.now.package.now, c.args.scope.now.file.now) (option_map (λ m. m.now) c.args.order.now.main_path) c.args.order.now.steps _ c.args.module_path.now c.args.snapshot.now.sources c.args.snapshot.now.parts c.args.snapshot.now.faults c.args.notes.now c.args.passed.now
    (ap (λ (fs : List PlacedFault). is_clean fs c.args.notes.now) (sym c.faults.ensures) ∙ (sym c.is_clean-clean.ensures ∙ c.if-clean.false)) c.tell_faults.ensures
