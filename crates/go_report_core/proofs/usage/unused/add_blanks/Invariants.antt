use Rattle.std.proofs.Common.{◌≡◌, take}
use Rattle.std.specs.List.{flat_map}
use Rattle.go_report_core.specs.usage.mirrors.Steps.{with_places}
use Rattle.go_report_core.proofs.UsageSteps.{line_blank}
use Rattle.go_report_core.proofs.usage.unused.add_blanks.Given as goal

abbrev pub invariant-loop-line : goal.invariant-loop-line
invariant-loop-line l = l.places.keys ≡ with_places l.fn.places.keys (flat_map line_blank (take l.line-index l.line-items))
