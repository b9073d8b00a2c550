use Rattle.std.proofs.Common.{map}
use Rattle.go_table_core.specs.Entries.{find_entry}
use Rattle.go_table_core.specs.Shown.{entry_shown}
use Rattle.go_type_core.specs.mirrors.Chained.{kind_at}
use Rattle.go_type_core.specs.mirrors.Numbers.{IsTable}
use Rattle.go_type_core.proofs.roots.kinds_of.Given as goal

abbrev pub invariant-loop-number : goal.invariant-loop-number
invariant-loop-number l = IsTable l.kinds.items l.number (kind_at (find_entry l.imported) l.nothing (map entry_shown l.entries) l.ends)
