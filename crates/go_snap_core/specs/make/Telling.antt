-- What the packages of a workspace tell, by their numbers.
use Rattle.std.specs.Prelude.{List, Option, map}
use Rattle.std.specs.Option.{option_map}
use Rattle.go_report_core.specs.summary_core.Summaries.{SummaryModel}
use Rattle.go_emit_core.specs.package_core.PackagePartParts.{PartModel}

-- of each package that has a part what the part tells, and nothing of another
abbrev pub told_of : List (Option PartModel) → List (Option SummaryModel)
told_of parts = map (option_map (λ (p : PartModel). p.content.summary)) parts
