-- A graph has ranks: how many nodes each node reaches.
use Rattle.std.proofs.Common.{◌≡◌, ℕ, ◌+◌, ◌<◌, ◌≤◌, ◌↔◌, ◌⊎◌, inl, inr, Bool, true, false, List, length, get_or, map, refl, sym, ◌∙◌, subst, arith}
use Rattle.std.specs.List.{count_by, range_with_len}
use Rattle.std.proofs.lemmas.Bool.{cases_lt}
use Rattle.std.proofs.lemmas.List.{get_or_past}
use Rattle.std.proofs.lemmas.List.FromFn.{get_or-map-range_with_len, length-map-range_with_len}
use Rattle.go_digraph_core.specs.declared.cycle.edge.Edge.{Edge}
use Rattle.go_digraph_core.specs.cycle.Cycle.{InRange, Reaches, IsRanking}
use Rattle.go_digraph_core.specs.cycle.mirrors.Search.{IsReach, IsReachCount}
use Rattle.go_digraph_core.proofs.CycleCounts.{ranking_from_counts}
use Rattle.go_digraph_core.proofs.CycleWalks.{reach_stays}
use Rattle.go_graph_core.proofs.Reaching.{reach_decided}

-- whether a fact that is decided holds
abbrev pub holds : {P : Type 0} → P ⊎ (P → ⊥) → Bool
holds (inl p) = true
holds (inr n) = false

pub holds_is : {P : Type 0} (d : P ⊎ (P → ⊥)) → (holds d ≡ true) ↔ P
holds_is (inl p) = ((λ h. p), (λ h. refl))
holds_is (inr n) = ((λ h. let k : false ≡ true = h in cc), (λ p. absurd (n p)))

-- marks on what a node reaches
abbrev marks_of : List Edge → ℕ → ℕ → List Bool
marks_of g n v = map (λ u. holds (reach_decided g v u)) (range_with_len 0 n)

abbrev pub ranks_of : List Edge → ℕ → List ℕ
ranks_of g n = map (λ v. count_by (λ m. m) (marks_of g n v)) (range_with_len 0 n)

marks_reach : (g : List Edge) (n v : ℕ) → InRange n g → v < n → IsReach g v (marks_of g n v)
marks_reach g n v within below u =
    let f : ℕ → Bool = λ x. holds (reach_decided g v x) in
    elim (cases_lt u n) [
      | inl lt ↦
          let z : 0 + u ≡ u = omega arith in
          let P : Bool → Type 0 = λ b. (b ≡ true) ↔ Reaches g v u in
          subst P (sym (get_or-map-range_with_len f 0 n u u false lt z)) (holds_is (reach_decided g v u))
      | inr past ↦
          let len : length (marks_of g n v) ≤ u = omega (arith, past, length-map-range_with_len f 0 n) in
          let off : get_or (marks_of g n v) u false ≡ false = get_or_past (marks_of g n v) u false len in
          ((λ h. absurd (let k : false ≡ true = sym off ∙ h in cc)), (λ r. absurd (let lt : u < n = reach_stays g n v u within below r in omega (arith, lt, past))))
    ]

pub ranks_rank : (g : List Edge) (n : ℕ) → InRange n g → IsRanking g (ranks_of g n)
ranks_rank g n within = ranking_from_counts g n (ranks_of g n) within (λ v lt.
    let f : ℕ → ℕ = λ x. count_by (λ m. m) (marks_of g n x) in
    let z : 0 + v ≡ v = omega arith in
    let P : ℕ → Type 0 = λ r. IsReachCount g n v r in
    subst P (sym (get_or-map-range_with_len f 0 n v v 0 lt z)) (marks_of g n v, length-map-range_with_len (λ u. holds (reach_decided g v u)) 0 n, marks_reach g n v within lt, refl))
