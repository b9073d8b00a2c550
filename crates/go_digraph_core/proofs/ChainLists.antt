-- Lists after a write.
use Rattle.std.proofs.Common.{◌≡◌, ◌≢◌, ℕ, zero, suc, ◌<◌, ◌+◌, ◌⊎◌, inl, inr, Bool, true, false, not, cond, List, [], ◌∷◌, length, get_or, set, replicate, take, Option, Some, None, refl, sym, ap, ◌∙◌, subst, arith}
use Rattle.std.specs.List.{All, Contains, count_by, slice_get}
use Rattle.std.proofs.lemmas.List.{get_or-set_other, get_or-set_same}
use Rattle.std.proofs.lemmas.List.Elements.{All-more, All-weaker, Contains-get_or}
use Rattle.std.proofs.lemmas.List.Sums.{sum_by-set}
use Rattle.std.proofs.lemmas.Bool.{cases_eq}

pub get_set_same : {X : Type 0} (xs : List X) (i : ℕ) (x : X) → i < length xs → slice_get (set xs i x) i ≡ Some x
get_set_same [] i x lt = absurd (omega arith)
get_set_same (y ∷ ys) zero x lt = refl
get_set_same (y ∷ ys) (suc i) x lt = get_set_same ys i x (omega arith)

pub get_set_other : {X : Type 0} (xs : List X) (i j : ℕ) (x : X) → j ≢ i → slice_get (set xs i x) j ≡ slice_get xs j
get_set_other [] i j x ne = refl
get_set_other (y ∷ ys) zero zero x ne = absurd (ne refl)
get_set_other (y ∷ ys) zero (suc j) x ne = refl
get_set_other (y ∷ ys) (suc i) zero x ne = refl
get_set_other (y ∷ ys) (suc i) (suc j) x ne = get_set_other ys i j x (λ e. ne (ap suc e))

-- a mark more
pub still_marked : (marks : List Bool) (i j : ℕ) → i < length marks → get_or marks j false ≡ true → get_or (set marks i true) j false ≡ true
still_marked marks i j lt h = elim (cases_eq j i) [
  | inl q ↦ (let P : ℕ → Type 0 = λ x. get_or (set marks i true) x false ≡ true in subst P (sym q) (get_or-set_same marks i true false lt))
  | inr n ↦ get_or-set_other marks i j true false n ∙ h
]

pub marked_before : (marks : List Bool) (i j : ℕ) → get_or (set marks i true) j false ≡ true → (j ≡ i) ⊎ (get_or marks j false ≡ true)
marked_before marks i j h = elim (cases_eq j i) [ inl e ↦ inl e | inr n ↦ inr (sym (get_or-set_other marks i j true false n) ∙ h) ]

pub start_marked : (marks : List Bool) (stop start : ℕ) → stop < length marks → (stop ≡ start) ⊎ (get_or marks start false ≡ true) → get_or (set marks stop true) start false ≡ true
start_marked marks stop start lt (inl e) = (let P : ℕ → Type 0 = λ x. get_or (set marks stop true) x false ≡ true in subst P e (get_or-set_same marks stop true false lt))
start_marked marks stop start lt (inr m) = still_marked marks stop start lt m

-- one number less is without a mark
pub fewer_left : (marks : List Bool) (i : ℕ) → i < length marks → get_or marks i false ≡ false → count_by (λ m. not m) (set marks i true) < count_by (λ m. not m) marks
fewer_left marks i lt unmarked =
    let counted : count_by (λ m. not m) (set marks i true) + cond {A = ℕ} (not (get_or marks i false)) 1 0 ≡ count_by (λ m. not m) marks + 0 = sum_by-set (λ m. cond (not m) 1 0) marks i true false lt in
    let one : cond {A = ℕ} (not (get_or marks i false)) 1 0 ≡ 1 = ap (λ b. cond {A = ℕ} (not b) 1 0) unmarked in
    omega arith

-- no marks yet
pub none_marked : (n i : ℕ) → get_or (replicate n false) i false ≡ true → ⊥
none_marked zero i h = (cc)
none_marked (suc n) zero h = (cc)
none_marked (suc n) (suc i) h = none_marked n i h

pub unmarked_len : (n : ℕ) → length (replicate n false) ≡ n
unmarked_len zero = refl
unmarked_len (suc n) = ap suc (unmarked_len n)

pub no_ends_len : (n : ℕ) → length (replicate {A = Option ℕ} n None) ≡ n
no_ends_len zero = refl
no_ends_len (suc n) = ap suc (no_ends_len n)

pub no_ends : (n i j : ℕ) → slice_get (replicate n None) i ≡ Some (Some j) → ⊥
no_ends zero i j h = (cc)
no_ends (suc n) zero j h = (cc)
no_ends (suc n) (suc i) j h = no_ends n i j h

-- one more of the numbers on the way has its end
pub given_more : (ends : List (Option ℕ)) (way : List ℕ) (k n end : ℕ) → k < length way → get_or way k 0 ≡ n → n < length ends
    → All (λ i. slice_get ends i ≡ Some (Some end)) (take k way) → All (λ i. slice_get (set ends n (Some end)) i ≡ Some (Some end)) (take (k + 1) way)
given_more ends way k n end lt at inside all =
    let P : ℕ → Type 0 = λ i. slice_get (set ends n (Some end)) i ≡ Some (Some end) in
    let here : P n = get_set_same ends n (Some end) inside in
    All-more P way k 0 lt
    (All-weaker (λ i. slice_get ends i ≡ Some (Some end)) P (λ i h. elim (cases_eq i n) [ inl e ↦ subst P (sym e) here | inr ne ↦ get_set_other ends n i (Some end) ne ∙ h ]) (take k way) all)
    (subst P (sym at) here)

pub kept_more : (first ends : List (Option ℕ)) (way : List ℕ) (k n end : ℕ) → k < length way → get_or way k 0 ≡ n → n < length ends
    → ((i : ℕ) → (slice_get ends i ≡ slice_get first i) ⊎ (Contains way i × (slice_get ends i ≡ Some (Some end))))
    → (i : ℕ) → (slice_get (set ends n (Some end)) i ≡ slice_get first i) ⊎ (Contains way i × (slice_get (set ends n (Some end)) i ≡ Some (Some end)))
kept_more first ends way k n end lt at inside kept i =
    let Q : ℕ → Type 0 = λ i. Contains way i × (slice_get (set ends n (Some end)) i ≡ Some (Some end)) in
    let C : ℕ → Type 0 = λ i. Contains way i in
    let here : Q n = (subst C at (Contains-get_or way k 0 lt), get_set_same ends n (Some end) inside) in
    elim (cases_eq i n) [
      | inl e ↦ inr (subst Q (sym e) here)
      | inr ne ↦ elim (kept i) [
        | inl same ↦ inl (get_set_other ends n i (Some end) ne ∙ same)
        | inr w ↦ inr (w.0, get_set_other ends n i (Some end) ne ∙ w.1)
      ]
    ]

pub marked_within : (marks : List Bool) (i : ℕ) → get_or marks i false ≡ true → i < length marks
marked_within [] i h = (cc)
marked_within (m ∷ ms) zero h = omega arith
marked_within (m ∷ ms) (suc i) h = (let lt : i < length ms = marked_within ms i h in omega arith)
