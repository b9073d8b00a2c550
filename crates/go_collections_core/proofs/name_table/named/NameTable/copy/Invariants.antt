use Rattle.std.proofs.Common.{◌≡◌, take}
use Rattle.go_collections_core.specs.name_table.Named.{entries_named}
use Rattle.go_collections_core.proofs.name_table.named.NameTable.copy.Given as goal

abbrev pub invariant-loop-name : goal.invariant-loop-name
invariant-loop-name g l = l.copied.names ≡ entries_named (take l.name-index l.name-items)
