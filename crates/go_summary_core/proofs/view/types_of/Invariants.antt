use Rattle.std.proofs.Common.{◌≡◌, take}
use Rattle.go_summary_core.specs.Views.{types_told}
use Rattle.go_summary_core.proofs.Viewed.{AreOfOne}
use Rattle.go_summary_core.proofs.view.types_of.Given as goal

abbrev pub invariant-loop-summary : goal.invariant-loop-summary
invariant-loop-summary l = (l.types ≡ types_told (take l.summary-index l.summaries)) × AreOfOne (take l.summary-index l.summaries)
