use Rattle.std.proofs.Common.{[], map, take}
use Rattle.go_table_core.specs.Shown.{entry_shown}
use Rattle.go_type_core.specs.mirrors.Edges.{HasAlso, all_uses}
use Rattle.go_type_core.proofs.looped.all_uses.Given as goal

abbrev pub invariant-loop-number : goal.invariant-loop-number
invariant-loop-number l = HasAlso [] (all_uses l.keys 0 (map entry_shown (take l.number l.entries))) l.edges.items
