-- A graph has an order of its nodes along the edges that lie on no cycle.
use Rattle.std.proofs.Common.{◌≡◌, ℕ, ◌+◌, ◌<◌, ◌≤◌, ◌↔◌, ◌⊎◌, inl, inr, Bool, true, false, List, [], ◌∷◌, length, get_or, map, All, refl, sym, ◌∙◌, subst, arith, zero, suc}
use Rattle.std.specs.List.{count_by, range_with_len}
use Rattle.std.specs.List.Sorted.{IsPermutation, IsNonDecreasingBy}
use Rattle.std.proofs.lemmas.Bool.{cases_lt}
use Rattle.std.proofs.lemmas.List.{get_or_past}
use Rattle.std.proofs.lemmas.List.Elements.{All-cons, All-weaker}
use Rattle.std.proofs.lemmas.List.FromFn.{get_or-map-range_with_len, length-map-range_with_len}
use Rattle.std.proofs.lemmas.List.Sorted.{All-permutation, IsNonDecreasingBy-short, IsPermutation-cons, IsPermutation-middle, IsPermutation-refl, IsPermutation-sym, IsPermutation-trans}
use Rattle.go_digraph_core.specs.declared.cycle.edge.Edge.{Edge}
use Rattle.go_digraph_core.specs.cycle.Cycle.{InRange, Reaches, IsRanking, IsAfter}
use Rattle.go_digraph_core.specs.cycle.mirrors.Search.{IsReach, IsReachCount}
use Rattle.go_digraph_core.proofs.CycleCounts.{ranking_from_counts}
use Rattle.go_digraph_core.proofs.CycleSorts.{after_by_rank}
use Rattle.go_digraph_core.proofs.CycleWalks.{reach_stays}
use Rattle.go_graph_core.proofs.Reaching.{reach_decided}

-- whether a fact that is decided holds
abbrev holds : {P : Type 0} → P ⊎ (P → ⊥) → Bool
holds (inl p) = true
holds (inr n) = false

holds_is : {P : Type 0} (d : P ⊎ (P → ⊥)) → (holds d ≡ true) ↔ P
holds_is (inl p) = ((λ h. p), (λ h. refl))
holds_is (inr n) = ((λ h. let k : false ≡ true = h in cc), (λ p. absurd (n p)))

-- marks on what a node reaches
abbrev marks_of : List Edge → ℕ → ℕ → List Bool
marks_of g n v = map (λ u. holds (reach_decided g v u)) (range_with_len 0 n)

abbrev ranks_of : List Edge → ℕ → List ℕ
ranks_of g n = map (λ v. count_by (λ m. m) (marks_of g n v)) (range_with_len 0 n)

marks_reach : (g : List Edge) (n v : ℕ) → InRange n g → v < n → IsReach g v (marks_of g n v)
marks_reach g n v within below u =
    let f : ℕ → Bool = λ x. holds (reach_decided g v x) in
    elim (cases_lt u n) [
      | inl lt ↦
          let z : 0 + u ≡ u = omega arith in
          let P : Bool → Type 0 = λ b. (b ≡ true) ↔ Reaches g v u in
          subst P (sym (get_or-map-range_with_len f 0 n u u false lt z)) (holds_is (reach_decided g v u))
      | inr past ↦
          let len : length (marks_of g n v) ≤ u = omega (arith, past, length-map-range_with_len f 0 n) in
          let off : get_or (marks_of g n v) u false ≡ false = get_or_past (marks_of g n v) u false len in
          ((λ h. absurd (let k : false ≡ true = sym off ∙ h in cc)), (λ r. absurd (let lt : u < n = reach_stays g n v u within below r in omega (arith, lt, past))))
    ]

ranks_rank : (g : List Edge) (n : ℕ) → InRange n g → IsRanking g (ranks_of g n)
ranks_rank g n within = ranking_from_counts g n (ranks_of g n) within (λ v lt.
    let f : ℕ → ℕ = λ x. count_by (λ m. m) (marks_of g n x) in
    let z : 0 + v ≡ v = omega arith in
    let P : ℕ → Type 0 = λ r. IsReachCount g n v r in
    subst P (sym (get_or-map-range_with_len f 0 n v v 0 lt z)) (marks_of g n v, length-map-range_with_len (λ u. holds (reach_decided g v u)) 0 n, marks_reach g n v within lt, refl))

-- a number in front of those that it is not above
rising_cons : (key : ℕ → ℕ) (x : ℕ) (ys : List ℕ) → All (λ y. key x ≤ key y) ys → IsNonDecreasingBy key ys → IsNonDecreasingBy key (x ∷ ys)
rising_cons key x ys least rising zero zero d le lt = omega arith
rising_cons key x ys least rising zero (suc j) d le lt = (let lt' : j < length ys = omega (arith, lt) in least j d lt')
rising_cons key x ys least rising (suc i) zero d le lt = absurd (omega (arith, le))
rising_cons key x ys least rising (suc i) (suc j) d le lt = (let le' : i ≤ j = omega (arith, le) in let lt' : j < length ys = omega (arith, lt) in rising i j d le' lt')

rising_tail : (key : ℕ → ℕ) (x : ℕ) (ys : List ℕ) → IsNonDecreasingBy key (x ∷ ys) → IsNonDecreasingBy key ys
rising_tail key x ys rising i j d le lt = (let le' : suc i ≤ suc j = omega (arith, le) in let lt' : suc j < length (x ∷ ys) = omega (arith, lt) in rising (suc i) (suc j) d le' lt')

rising_head : (key : ℕ → ℕ) (x : ℕ) (ys : List ℕ) → IsNonDecreasingBy key (x ∷ ys) → All (λ y. key x ≤ key y) ys
rising_head key x ys rising j d lt = (let le : 0 ≤ suc j = omega arith in let lt' : suc j < length (x ∷ ys) = omega (arith, lt) in rising 0 (suc j) d le lt')

-- a list in order of a key
abbrev Sorted : (ℕ → ℕ) → List ℕ → Type 0
Sorted key xs = (ys : List ℕ) × IsPermutation xs ys × IsNonDecreasingBy key ys

put : (key : ℕ → ℕ) (x : ℕ) (ys : List ℕ) → IsNonDecreasingBy key ys → Sorted key (x ∷ ys)
put key x [] rising = (x ∷ [], IsPermutation-refl (x ∷ []), (let one : length (x ∷ []) ≤ 1 = omega arith in IsNonDecreasingBy-short key (x ∷ []) one))
put key x (y ∷ ys) rising = elim (cases_lt (key y) (key x)) [
  | inl above ↦
      let behind = put key x ys (rising_tail key y ys rising) in
      let le : key y ≤ key x = omega (arith, above) in
      let least : All (λ z. key y ≤ key z) behind.0 = All-permutation (λ z. key y ≤ key z) (x ∷ ys) behind.0 behind.1 (All-cons (λ z. key y ≤ key z) x ys le (rising_head key y ys rising)) in (
        y ∷ behind.0,
        IsPermutation-trans (x ∷ y ∷ ys) (y ∷ x ∷ ys) (y ∷ behind.0) (IsPermutation-sym (y ∷ x ∷ ys) (x ∷ y ∷ ys) (IsPermutation-middle (y ∷ []) x ys)) (IsPermutation-cons y (x ∷ ys) behind.0 behind.1),
        rising_cons key y behind.0 least behind.2,
      )
  | inr here ↦
      let least : All (λ z. key x ≤ key z) ys = All-weaker (λ z. key y ≤ key z) (λ z. key x ≤ key z) (λ z h. omega (arith, here, h)) ys (rising_head key y ys rising) in
      (x ∷ y ∷ ys, IsPermutation-refl (x ∷ y ∷ ys), rising_cons key x (y ∷ ys) (All-cons (λ z. key x ≤ key z) y ys here least) rising)
]

sorted : (key : ℕ → ℕ) (xs : List ℕ) → Sorted key xs
sorted key [] = ([], IsPermutation-refl [], (let none : length {A = ℕ} [] ≤ 1 = omega arith in IsNonDecreasingBy-short key [] none))
sorted key (x ∷ xs) =
    let behind = sorted key xs in
    let all = put key x behind.0 behind.2 in
    (all.0, IsPermutation-trans (x ∷ xs) (x ∷ behind.0) all.0 (IsPermutation-cons x xs behind.0 behind.1) all.1, all.2)

-- all nodes in an order behind those that their edges lead to, but for edges on a cycle
pub has_order : (g : List Edge) (n : ℕ) → InRange n g → (numbers : List ℕ) × IsPermutation (range_with_len 0 n) numbers × IsAfter g numbers
has_order g n within =
    let ranks : List ℕ = ranks_of g n in
    let order = sorted (λ v. get_or ranks v 0) (range_with_len 0 n) in
    (order.0, order.1, after_by_rank g ranks order.0 (ranks_rank g n within) order.2)
