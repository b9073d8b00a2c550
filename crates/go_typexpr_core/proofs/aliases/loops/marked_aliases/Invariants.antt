use Rattle.std.proofs.Common.{◌≡◌, ◌++◌, map}
use Rattle.go_type_core.specs.table_core.Shown.{entry_shown}
use Rattle.go_typexpr_core.specs.aliases.mirrors.Numbered.{marked_aliases}
use Rattle.go_typexpr_core.proofs.aliases.loops.marked_aliases.Given as goal

abbrev pub invariant-loop-is_marked : goal.invariant-loop-is_marked
invariant-loop-is_marked l = l.marked.items ++ marked_aliases l.aliases l.is_marked-iterator.a.rest.now (map entry_shown l.is_marked-iterator.b.rest.now) ≡ marked_aliases l.aliases l.marks (map entry_shown l.entries)
