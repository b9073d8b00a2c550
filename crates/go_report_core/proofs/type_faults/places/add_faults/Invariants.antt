use Rattle.std.proofs.Common.{◌≡◌, ◌++◌, map, take}
use Rattle.std.specs.List.{flat_map}
use Rattle.go_summary_core.specs.typexpr_core.EntryOutlines.{outline_shown}
use Rattle.go_report_core.specs.type_faults.Places.{located}
use Rattle.go_report_core.proofs.type_faults.places.add_faults.Given as goal

abbrev pub invariant-loop-fault : goal.invariant-loop-fault
invariant-loop-fault l = l.faults.items ≡ l.fn.faults.items ++ flat_map (λ f. located (map outline_shown l.outlines) f.place f.rule) (map (λ f. f) (take l.fault-index l.found))
