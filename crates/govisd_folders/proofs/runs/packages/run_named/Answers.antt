use Rattle.std.proofs.Common.{map, subst}
use Rattle.go_object_core.specs.Objects.{object_shown}
use Rattle.govisd_disk.specs.Puts.{IsPathOf}
use Rattle.govisd_folders.proofs.RunsRunLemmas.{path_named}
use Rattle.govisd_folders.proofs.runs.packages.run_named.Goals as goal

pub returns-in-Some : goal.returns-in-Some
returns-in-Some c =
    path_named c.run_package.result c.args.workspace.now (map object_shown c.args.objects.now) c.args.before.now c.args.text.now c.in-Some.path c.args.steps
    (subst (IsPathOf c.args.text.now) c.in-Some.is c.in_ok-found.ensures) c.run_package.ensures
