-- Names before an offset, and what edits make of it.
use Rattle.std.proofs.Common.{◌≡◌, ◌+◌, ◌-◌, ◌*◌, ◌<◌, ◌≤◌, ◌∙◌, inl, inr, ℕ, suc, cond, nat_lt, List, [], ◌∷◌, length, count_by, refl, sym, ap, subst, arith, All, le-leb}
use Rattle.std.proofs.Math.Nat.{add-mul}
use Rattle.std.proofs.lemmas.Bool.{lt-leb}
use Rattle.std.proofs.lemmas.List.Sums.{sum_by-cons}
use Rattle.go_lsp_core.specs.edits.Edits.{AreInOrder, gained, lost}
use Rattle.go_lsp_core.proofs.EditsKeeping.{in_order, lost_below}
use Rattle.go_reference_core.specs.rename.Laws.{IsOutsideName, LiesWhereMoved}
use Rattle.go_reference_core.specs.rename.Moving.{names_in}
use Rattle.go_reference_core.specs.rename.Renaming.{name_parts}

abbrev before : ℕ → List ℕ → ℕ
before n offsets = count_by (λ at. nat_lt at n) offsets

counted : (n at : ℕ) (more : List ℕ) → at < n → before n (at ∷ more) ≡ 1 + before n more
counted n at more lt = sum_by-cons (λ x. cond (nat_lt x n) 1 0) at more ∙ ap (λ b. cond b 1 0 + before n more) (le-leb (suc at) n lt)

passed : (n at : ℕ) (more : List ℕ) → n ≤ at → before n (at ∷ more) ≡ before n more
passed n at more le =
    let none : ◌≡◌ {A = ℕ} (cond (nat_lt at n) 1 0) 0 = ap (λ b. cond b 1 0) (lt-leb (suc at) n (omega (arith, le))) in
    let all = sum_by-cons (λ x. cond (nat_lt x n) 1 0) at more in
    omega (arith, none, all)

-- where the parts stand from an offset on, no name begins before it
none_before : (len n from : ℕ) (new offsets : List ℕ) → AreInOrder from (name_parts len new offsets) → n ≤ from → before n offsets ≡ 0
none_before len n from new [] h le = refl
none_before len n from new (at ∷ more) h le =
    let first = h.0 in
    passed n at more (omega (arith, le, first)) ∙ none_before len n (at + len) new more h.2 (omega (arith, le, first))

outside_rest : (len n at : ℕ) (more : List ℕ) → All (IsOutsideName len n) (at ∷ more) → All (IsOutsideName len n) more
outside_rest len n at more h = λ i d lt. h (suc i) d (omega (arith, lt))

module _ (len n : ℕ) (new : List ℕ) (some : 1 ≤ len) where
  -- as many bytes go as names stand before the offset, and as many come
  sums : (from : ℕ) (offsets : List ℕ) → AreInOrder from (name_parts len new offsets) → All (IsOutsideName len n) offsets
      → (lost (name_parts len new offsets) n ≡ before n offsets * len) × (gained (name_parts len new offsets) n ≡ before n offsets * length new)
  sums from [] h out = (omega arith, omega arith)
  sums from (at ∷ more) h out = by (out 0 at (omega arith)) (sums (at + len) more h.2 (outside_rest len n at more out))
    where
      by : IsOutsideName len n at → (lost (name_parts len new more) n ≡ before n more * len) × (gained (name_parts len new more) n ≡ before n more * length new)
          → (lost (name_parts len new (at ∷ more)) n ≡ before n (at ∷ more) * len) × (gained (name_parts len new (at ∷ more)) n ≡ before n (at ∷ more) * length new)
      by (inl low) rest =
          let none : before n (at ∷ more) ≡ 0 = passed n at more low ∙ none_before len n (at + len) new more h.2 (omega (arith, low)) in
          let over : n < at + len = omega (arith, low, some) in
          let gone : lost (name_parts len new (at ∷ more)) n ≡ 0 = ap (λ b. cond b (((at + len) - at) + lost (name_parts len new more) n) 0) (lt-leb (at + len) n over) in
          let come : gained (name_parts len new (at ∷ more)) n ≡ 0 = ap (λ b. cond b (length new + gained (name_parts len new more) n) 0) (lt-leb (at + len) n over) in
          (gone ∙ sym (ap (λ (c : ℕ). c * len) none ∙ omega arith), come ∙ sym (ap (λ (c : ℕ). c * length new) none ∙ omega arith))
      by (inr high) rest =
          let one : before n (at ∷ more) ≡ 1 + before n more = counted n at more (omega (arith, high, some)) in
          let gone : lost (name_parts len new (at ∷ more)) n ≡ ((at + len) - at) + lost (name_parts len new more) n =
          ap (λ b. cond b (((at + len) - at) + lost (name_parts len new more) n) 0) (le-leb (at + len) n high) in
          let come : gained (name_parts len new (at ∷ more)) n ≡ length new + gained (name_parts len new more) n =
          ap (λ b. cond b (length new + gained (name_parts len new more) n) 0) (le-leb (at + len) n high) in
          let first = rest.0 in
          let second = rest.1 in
          let l = add-mul 1 (before n more) len in
          let g = add-mul 1 (before n more) (length new) in
          let all : before n (at ∷ more) * len ≡ (1 + before n more) * len = ap (λ (c : ℕ). c * len) one in
          let each : before n (at ∷ more) * length new ≡ (1 + before n more) * length new = ap (λ (c : ℕ). c * length new) one in
          (omega (arith, gone, first, l, all), omega (arith, come, second, g, each))

pub lies_where_moved : LiesWhereMoved
lies_where_moved m new text number file n same some stand out =
    let parts = name_parts m.old new (names_in m number file) in
    let order : AreInOrder 0 parts = in_order text 0 parts stand in
    let both = sums m.old n new some 0 (names_in m number file) order out in
    let below : lost parts n ≤ n = (let l = lost_below 0 parts n order (omega arith) in omega (arith, l)) in
    let gone = both.0 in
    let come : gained parts n ≡ before n (names_in m number file) * m.new = subst (λ (k : ℕ). gained parts n ≡ before n (names_in m number file) * k) same both.1 in
    omega (arith, below, gone, come)
