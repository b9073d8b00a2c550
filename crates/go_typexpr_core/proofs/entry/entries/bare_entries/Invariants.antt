use Rattle.std.proofs.Common.{◌≡◌, [], map, take}
use Rattle.go_type_core.specs.table_core.Shown.{entry_shown}
use Rattle.go_typexpr_core.specs.entry.Entries.{entries_with, package_meanings}
use Rattle.go_typexpr_core.specs.entry.Outlines.{outline_shown}
use Rattle.go_typexpr_core.proofs.entry.entries.bare_entries.Given as goal

abbrev pub invariant-loop-file : goal.invariant-loop-file
invariant-loop-file g l = map entry_shown l.entries.items ≡ entries_with (package_meanings (g.P.ImportedNames.shows l.fn.imported) l.fn.path l.fn.blocks) l.fn.path [] (map outline_shown (take l.file l.outlines))
