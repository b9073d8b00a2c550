use Rattle.std.proofs.Common.{[], map, take}
use Rattle.go_summary_core.specs.Summaries.{path_of}
use Rattle.go_summary_core.specs.shown.Shown.{MayBeShown, texts}
use Rattle.go_summary_core.specs.shown.mirrors.Adding.{AddsPicked}
use Rattle.go_summary_core.proofs.shown.paths.deps_shown.Given as goal

abbrev pub invariant-loop-number : goal.invariant-loop-number
invariant-loop-number l = AddsPicked (MayBeShown l.fn.from) (map path_of (take l.number l.fn.reached)) [] (texts l.paths.items)
