use Rattle.std.proofs.Common.{◌≡◌, ℕ, List, map, drop}
use Rattle.go_collections_core.specs.spelling_index.Spelled.{joined, places_of, spelled, spelled_from, spelled_in}
use Rattle.go_collections_core.proofs.spelling_index.spellings.Spellings.of.Given as goal

abbrev pub invariant-loop-at : goal.invariant-loop-at
invariant-loop-at l = (n : List ℕ) → joined (spelled_in (places_of l.spellings) n) (spelled_from l.at (map (λ m. m.now) (drop l.at l.names)) n) ≡ spelled (map (λ m. m.now) l.names) n
