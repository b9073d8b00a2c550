use Rattle.std.proofs.Common.{◌≡◌, ◌++◌, map, take}
use Rattle.std.specs.List.{flat_map}
use Rattle.go_summary_core.specs.table_core.Shown.{entry_shown}
use Rattle.go_summary_core.specs.typexpr_core.EntryOutlines.{outline_shown}
use Rattle.go_report_core.specs.type_faults.TypeFaults.{entry_faults}
use Rattle.go_report_core.proofs.type_faults.entries.add_entries.Given as goal

abbrev pub invariant-loop-entry : goal.invariant-loop-entry
invariant-loop-entry l = l.faults.items ≡ l.fn.faults.items ++ flat_map (entry_faults l.types l.path (map outline_shown l.outlines)) (map entry_shown (take l.entry-index l.entries))
