use Rattle.std.proofs.Common.{◌≡◌, take}
use Rattle.go_summary_core.specs.Views.{types_told}
use Rattle.go_summary_core.proofs.Viewed.{AreOfOne}
use Rattle.go_summary_core.proofs.reached.ReachedSummaries.types.Given as goal

abbrev pub invariant-loop-index : goal.invariant-loop-index
invariant-loop-index l = (l.types ≡ types_told (take l.index l.self)) × AreOfOne (take l.index l.self)
