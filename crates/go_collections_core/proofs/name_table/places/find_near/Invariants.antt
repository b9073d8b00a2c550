use Rattle.std.proofs.Common.{◌≡◌, ℕ, ◌<◌, ◌≤◌, Some, None, slice_get}
use Rattle.go_collections_core.specs.name_table.Named.{entries_named}
use Rattle.go_collections_core.specs.name_table.Placed.{if_named}
use Rattle.go_collections_core.proofs.name_table.places.find_near.Given as goal

abbrev pub invariant-loop-m : goal.invariant-loop-m
invariant-loop-m g l = (m p : ℕ) → l.start ≤ m → m < l.m → slice_get l.slots m ≡ Some p → if_named (slice_get (entries_named l.entries) p) l.name ≡ None
