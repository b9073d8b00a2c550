-- The exchange that adds a value keeps the rule.
use Rattle.std.proofs.Common.{◌≡◌, ℕ, ◌+◌, ◌<◌, ◌==◌, Bool, true, false, List, [], ◌∷◌, ◌++◌, length, refl, ap, sym, subst, arith, inl, length-append, None, Some, slice_get, MatchBool}
use Rattle.std.proofs.lemmas.List.{append-nil}
use Rattle.std.proofs.lemmas.Bool.Decides.{nat_tests}
use prog.Atomic.{either}
use Rattle.logbook.specs.Pages.{Cell, cell, keeps, no_nib, step, Moves, Goes}
use Rattle.go_hall_core.specs.stamping.Books.{Adds, IsCounted}

abbrev pub shown : {T : Type 0} → List T → List T
shown log = []

abbrev pub moved : {T : Type 0} → List T → List T → ℕ → Type 0
moved xs ys n = Unit {0}

-- what is put behind a list stands at its length
pub get_last : {T : Type 0} (xs : List T) (x : T) → slice_get (xs ++ x ∷ []) (length xs) ≡ Some x
get_last [] x = refl
get_last (y ∷ xs) x = get_last xs x

module _ {T : Type 0} where
  pub adds_goes : (log v : List T) (e : T) (old : ℕ) (b : Bool) → (length log == old) ≡ b
      → Goes IsCounted shown moved 0 (v, (no_nib, None)) (λ n. either (n == old) (old + 1) n) (Adds (step 0 old (old + 1) e) (v, (no_nib, None))) ((length log, true) ∷ (0, true) ∷ []) log
  adds_goes log v e old true is =
      let here : length log ≡ old = grind (arith, nat_tests) in
      let n : either (length log == old) (old + 1) (length log) ≡ length (log ++ e ∷ []) = rw is (omega (arith, length-append log (e ∷ []))) in (
        keeps,
        e ∷ [],
        None,
        tt,
        ap (λ (k : ℕ). (k, true) ∷ (0, true) ∷ []) n,
        inl (refl, refl),
        rw is (subst (λ k. slice_get (log ++ e ∷ []) k ≡ Some e) here (get_last log e)),
      )
  adds_goes log v e old false is =
      let all : log ++ [] ≡ log = append-nil log in
      let n : either (length log == old) (old + 1) (length log) ≡ length (log ++ []) = rw is (ap length (sym all)) in (
        keeps,
        [],
        None,
        tt,
        ap (λ (k : ℕ). (k, true) ∷ (0, true) ∷ []) n,
        inl (refl, refl),
        rw is tt,
      )

  -- whatever the book is, the exchange gives the value the expected number, or finds another
  pub adds_moves : (v : List T) (e : T) (old : ℕ)
      → Moves IsCounted shown moved 0 (v, (no_nib, None)) (λ n. either (n == old) (old + 1) n) (Adds (step 0 old (old + 1) e) (v, (no_nib, None)))
  adds_moves v e old cs log kept pre away =
      let P : List Cell → Type 0 = λ c. (0 < length c) × ((cell c 0).1 ≡ true) × Goes IsCounted shown moved 0 (v, (no_nib, None)) (λ n. either (n == old) (old + 1) n) (Adds (step 0 old (old + 1) e) (v, (no_nib, None))) c log in
      subst P (sym kept) (omega arith, refl, adds_goes log v e old (length log == old) refl)

at_true : (b : Bool) {P : Type 0} → b ≡ true → MatchBool b P (Unit {0}) → P
at_true true is p = p
at_true false is p = absurd (cc (is))

-- where the expected number was found, the value has it
pub added : {T : Type 0} (found old : ℕ) (log : List T) (x : T) → found ≡ old → MatchBool (found == old) (slice_get log old ≡ Some x) (Unit {0}) → slice_get log old ≡ Some x
added found old log x is p = at_true (found == old) (grind (arith, nat_tests)) p
