use Rattle.std.proofs.Common.{map}
use Rattle.go_table_core.specs.Shown.{entry_shown}
use Rattle.go_type_core.specs.mirrors.Chained.{next_named}
use Rattle.go_type_core.specs.mirrors.Numbers.{IsTable}
use Rattle.go_type_core.proofs.roots.next_named.Given as goal

abbrev pub invariant-loop-number : goal.invariant-loop-number
invariant-loop-number l = IsTable l.next.items l.number (next_named l.keys l.looped (map entry_shown l.entries))
