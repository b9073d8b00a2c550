use Rattle.govisd_disk.proofs.FindingLemmas.{of_folders}
use Rattle.govisd_disk.proofs.finding.read_module.Goals as goal

pub returns : goal.returns
returns g c =
    of_folders c.read_found.result c.args.folder.now c.args.module_path.now (c.args.scope.now.package.now, c.args.scope.now.file.now) _ _ _ c.in_ok-folders.field-0.passed_files c.in_ok-folders.field-0.passed_folders c.requires
    c.in_ok-passed.ensures c.read_found.ensures
