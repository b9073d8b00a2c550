use Rattle.std.proofs.Common.{map}
use Rattle.go_table_core.specs.Entries.{find_entry}
use Rattle.go_table_core.specs.Shown.{entry_shown}
use Rattle.go_type_core.specs.mirrors.Chained.{nothing_at}
use Rattle.go_type_core.specs.mirrors.Numbers.{IsTable}
use Rattle.go_type_core.proofs.nothing.mark_nothing.Given as goal

abbrev pub invariant-loop-number : goal.invariant-loop-number
invariant-loop-number l = IsTable l.marks.items l.number (nothing_at (find_entry l.imported) l.looped (map entry_shown l.entries) l.ends)
