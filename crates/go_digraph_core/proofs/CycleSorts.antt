-- The nodes in order of their ranks.
use Rattle.std.proofs.Common.{◌≡◌, ℕ, ◌≤◌, inl, inr, List, get_or, ap, arith}
use Rattle.std.specs.List.{slice_index}
use Rattle.std.specs.List.Sorted.{IsNonDecreasingBy}
use Rattle.std.proofs.lemmas.List.Elements.{All-contains}
use Rattle.std.proofs.lemmas.Bool.{cases_lt}
use Rattle.go_digraph_core.specs.declared.cycle.edge.Edge.{Edge}
use Rattle.go_digraph_core.specs.cycle.Cycle.{IsRanked, IsRanking, IsAfter}

pub after_by_rank : (g : List Edge) (ranks order : List ℕ) → IsRanking g ranks → IsNonDecreasingBy (λ v. slice_index ranks v) order → IsAfter g order
after_by_rank g ranks order rank rising e there off i j il jl fi tj =
    let here = All-contains (IsRanked g ranks) g e rank there in
    let le : slice_index ranks e.to ≤ slice_index ranks e.from = here.0 in
    let ne : slice_index ranks e.to ≡ slice_index ranks e.from → ⊥ = λ q. off (here.1.0 q) in
    let a : slice_index ranks (get_or order i 0) ≡ slice_index ranks e.from = ap (λ v. slice_index ranks v) fi in
    let b : slice_index ranks (get_or order j 0) ≡ slice_index ranks e.to = ap (λ v. slice_index ranks v) tj in
    elim (cases_lt j i) [
      | inr up ↦ absurd (let r : slice_index ranks (get_or order i 0) ≤ slice_index ranks (get_or order j 0) = rising i j 0 up jl in omega (arith, le, ne, a, b, r))
      | inl down ↦ down
    ]
