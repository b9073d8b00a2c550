use Rattle.std.proofs.Common.{◌≡◌, ◌++◌, map, take}
use Rattle.std.specs.Prelude.{slice_get}
use Rattle.std.specs.List.{flat_map}
use Rattle.go_summary_core.specs.table_core.Shown.{entry_shown}
use Rattle.go_summary_core.specs.typexpr_core.EntryOutlines.{outline_shown}
use Rattle.go_report_core.specs.type_faults.TypeFaults.{type_loop_fault}
use Rattle.go_report_core.proofs.type_faults.entries.add_loops.Given as goal

abbrev pub invariant-loop-fault : goal.invariant-loop-fault
invariant-loop-fault l = l.faults.items ≡ l.fn.faults.items ++ flat_map (λ f. type_loop_fault (map outline_shown l.outlines) f (slice_get (map entry_shown l.entries) f.entry)) (map (λ f. f) (take l.fault-index l.loops))
