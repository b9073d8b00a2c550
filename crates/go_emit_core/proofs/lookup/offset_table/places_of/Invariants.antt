use Rattle.std.proofs.Common.{◌≡◌, ℕ, drop, nat_eq}
use Rattle.std.specs.List.{position_from}
use Rattle.std.specs.Map.{lookup}
use Rattle.go_emit_core.proofs.lookup.offset_table.places_of.Given as goal

abbrev pub invariant-loop-place : goal.invariant-loop-place
invariant-loop-place l = (at : ℕ) → lookup (nat_eq at) l.places.entries ≡ position_from (λ e. nat_eq at e.0) l.place (drop l.place l.items)
