use Rattle.std.proofs.Common.{◌≡◌, ◌++◌, map, take}
use Rattle.go_summary_core.specs.typexpr_core.EntryOutlines.{outline_shown}
use Rattle.go_report_core.specs.type_faults.TypeFaults.{alias_faults}
use Rattle.go_report_core.proofs.type_faults.entries.add_looped.Given as goal

abbrev pub invariant-loop-alias : goal.invariant-loop-alias
invariant-loop-alias l = l.faults.items ≡ l.fn.faults.items ++ alias_faults (map outline_shown l.outlines) (map (λ d. d) (take l.alias-index l.looped))
