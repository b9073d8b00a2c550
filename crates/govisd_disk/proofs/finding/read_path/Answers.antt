use Rattle.std.proofs.Common.{[]}
use Rattle.std.specs.Prelude.{option_map}
use Rattle.govisd_disk.proofs.FindingLemmas.{by_root}
use Rattle.govisd_disk.proofs.finding.read_path.Goals as goal

pub returns-then-is_dir : goal.returns-then-is_dir
returns-then-is_dir g c = by_root c.read_root.result c.args.given.now c.as_str.result.now [] (option_map (λ m. m.now) c.args.module_path) c.read_root.ensures
