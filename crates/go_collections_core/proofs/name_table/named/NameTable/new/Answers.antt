use Rattle.std.proofs.Common.{◌≡◌, [], ap}
use Rattle.go_collections_core.specs.name_table.Named.{entries_named}
use Rattle.go_collections_core.proofs.NameTableOnce.{none_once}
use Rattle.go_collections_core.proofs.NameTablePlacing.{none_placed}
use Rattle.go_collections_core.proofs.name_table.named.NameTable.new.Goals as goal

pub invariant_of-result : goal.invariant_of-result
invariant_of-result g c = let none : entries_named c.new.result.items ≡ [] = ap entries_named c.new.ensures.items in (none_placed _ _ _ none, none_once _ none)
