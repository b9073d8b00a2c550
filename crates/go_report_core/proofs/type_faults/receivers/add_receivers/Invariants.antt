use Rattle.std.proofs.Common.{◌≡◌, ◌++◌, map, take}
use Rattle.go_summary_core.specs.typexpr_core.EntryEntries.{package_meanings}
use Rattle.go_summary_core.specs.typexpr_core.EntryMeanings.{raw}
use Rattle.go_summary_core.specs.typexpr_core.EntryOutlines.{outline_shown}
use Rattle.go_report_core.specs.type_faults.TypeFaults.{receivers_faults}
use Rattle.go_report_core.proofs.type_faults.receivers.add_receivers.Given as goal

abbrev pub invariant-loop-file : goal.invariant-loop-file
invariant-loop-file g l =
    l.faults.items
    ≡ l.fn.faults.items
    ++ receivers_faults l.types (package_meanings (raw (g.P.ImportedNames.shows l.fn.imported)) l.fn.path l.fn.blocks) (package_meanings (g.P.ImportedNames.shows l.fn.imported) l.fn.path l.fn.blocks) l.fn.path (map outline_shown (take l.file l.outlines))
