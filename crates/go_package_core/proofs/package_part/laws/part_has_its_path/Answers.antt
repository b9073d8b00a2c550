use Rattle.std.proofs.Common.{ap}
use Rattle.go_report_core.specs.summary_core.Summaries.{path_of}
use Rattle.go_package_core.proofs.package_part.laws.part_has_its_path.Goals as goal

pub returns : goal.returns
returns c = λ i content made. ap path_of made.summary
