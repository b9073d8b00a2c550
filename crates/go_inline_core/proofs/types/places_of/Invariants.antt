use Rattle.std.proofs.Common.{◌≡◌, ℕ, drop, nat_eq}
use Rattle.std.specs.List.{position_from}
use Rattle.std.specs.Map.{lookup}
use Rattle.go_inline_core.proofs.types.places_of.Given as goal

abbrev pub invariant-loop-place : goal.invariant-loop-place
invariant-loop-place l = (at : ℕ) → lookup (nat_eq at) l.places.entries ≡ position_from (λ t. nat_eq at t.0) l.place (drop l.place l.notes)
