use Rattle.std.proofs.Common.{take}
use Rattle.std.specs.Prelude.{⊤}
use Rattle.go_collections_core.specs.name_table.Named.{entries_named}
use Rattle.go_collections_core.specs.name_table.Placed.{ArePlaced}
use Rattle.go_collections_core.proofs.name_table.places.Places.of.Given as goal

abbrev pub invariant-loop : goal.invariant-loop
invariant-loop g l = ⊤

abbrev pub invariant-loop-place : goal.invariant-loop-place
invariant-loop-place g l = ArePlaced l.places.slots.items l.places.more (entries_named (take l.place l.entries))
