use Rattle.std.proofs.Common.{◌≡◌, drop}
use Rattle.go_report_core.specs.usage.Used.{used_places}
use Rattle.go_report_core.specs.usage.mirrors.Steps.{with_places}
use Rattle.go_report_core.proofs.usage.used.add_used_places.Given as goal

abbrev pub invariant-loop-number : goal.invariant-loop-number
invariant-loop-number l = with_places l.places.keys (used_places l.blocks l.file (drop l.number l.occs) (drop l.number l.answers)) ≡ with_places l.fn.places.keys (used_places l.blocks l.file l.occs l.answers)
