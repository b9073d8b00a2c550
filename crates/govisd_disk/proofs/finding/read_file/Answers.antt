use Rattle.std.specs.Prelude.{option_map}
use Rattle.govisd_disk.proofs.FindingLemmas.{by_root}
use Rattle.govisd_disk.proofs.finding.read_file.Goals as goal

pub returns-in-Source : goal.returns-in-Source
returns-in-Source g c = by_root c.read_root.result c.args.given.now c.args.folder.now c.args.file.now (option_map (λ m. m.now) c.args.module_path) c.read_root.ensures
