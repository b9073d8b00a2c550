use Rattle.std.specs.Prelude.{option_map}
use Rattle.govisd_folders.proofs.RunsRunLemmas.{of_snapshot}
use Rattle.govisd_folders.proofs.runs.running.run_workspace.Goals as goal

pub returns : goal.returns
returns g c =
    of_snapshot c.run_snapshot.result c.args.order.now.folder.now (c.args.scope.now.package.now, c.args.scope.now.file.now) (option_map (λ m. m.now) c.args.order.now.main_path) c.args.order.now.steps c.args.module_path.now c.in_ok-snapshot.snapshot c.args.workspace.now c.args.notes.now c.args.passed.now
    c.in_ok-snapshot.ensures.sources c.in_ok-snapshot.ensures.whole c.run_snapshot.ensures
