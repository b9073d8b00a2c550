-- Rows of outcomes, import by import.
use Rattle.std.proofs.Common.{◌≡◌, ◌<◌, ◌≤◌, ⊎_elim, ℕ, zero, suc, ◌+◌, ◌^◌, List, [], ◌∷◌, length, Option, Some, None, refl, sym, ap, ◌∙◌, arith}
use Rattle.std.specs.Prelude.{option_and_then, slice_get}
use Rattle.std.proofs.lemmas.Bool.{cases_lt}
use Rattle.std.proofs.lemmas.Option.{slice_get_past}
use Rattle.go_graph_core.specs.declared.imports.ImportOutcome.{ImportOutcome}
use Rattle.go_graph_core.specs.Plans.{PlanModel}
use Rattle.go_import_core.specs.head.Rows.{EndsRow, HaveSameRow, row_at}

past : {X : Type 0} (xs : List X) (j k : ℕ) → slice_get xs j ≡ None → j ≤ k → slice_get xs k ≡ None
past xs j k none le = slice_get_past xs k (omega (arith, le, ends xs j none))
  where
    ends : {X : Type 0} (xs : List X) (j : ℕ) → slice_get xs j ≡ None → length xs ≤ j
    ends [] j e = omega arith
    ends (x ∷ xs) zero e = absurd cc
    ends (x ∷ xs) (suc j) e = omega (arith, ends xs j e)

-- behind an import that is not there is none
row_past : (os : List (List (List ImportOutcome))) (n file j k : ℕ) → row_at os n file j ≡ None → j ≤ k → row_at os n file k ≡ None
row_past os n file j k none le = by_package (slice_get os n) none
  where
    by_file : (o : Option (List ImportOutcome)) → option_and_then (λ is. slice_get is j) o ≡ None → option_and_then (λ is. slice_get is k) o ≡ None
    by_file None e = refl
    by_file (Some is) e = past is j k e le

    by_package : (o : Option (List (List ImportOutcome))) → option_and_then (λ is. slice_get is j) (option_and_then (λ fs. slice_get fs file) o) ≡ None → option_and_then (λ is. slice_get is k) (option_and_then (λ fs. slice_get fs file) o) ≡ None
    by_package None e = refl
    by_package (Some fs) e = by_file (slice_get fs file) e

-- a row with an import at each number up to one

abbrev pub AreThereTo : PlanModel → ℕ → ℕ → ℕ → Type 0
AreThereTo p n file j = (k : ℕ) → k < j → row_at p.outcomes n file k ≡ None → ⊥

pub there_more : (p : PlanModel) (n file j : ℕ) (o : ImportOutcome) → AreThereTo p n file j → row_at p.outcomes n file j ≡ Some o → AreThereTo p n file (j + 1)
there_more p n file j o there here k lt none = ⊎_elim
    (λ (less : k < j). there k less none)
    (λ (ge : j ≤ k). (let is : j ≡ k = omega (arith, lt, ge) in let no : Some o ≡ None = sym here ∙ ap (λ x. row_at p.outcomes n file x) is ∙ none in absurd cc))
    (cases_lt k j)

-- then it has more than a `usize` counts
pub no_end : (p : PlanModel) (n file j : ℕ) → AreThereTo p n file j → 2 ^ 64 ≤ j + 1 → EndsRow p n file → ⊥
no_end p n file j there far ends = there ends.0 (omega (arith, far, ends.1)) ends.2

-- rows that are the same up to a number

abbrev pub AreRowsTo : PlanModel → PlanModel → ℕ → ℕ → ℕ → Type 0
AreRowsTo p q n file j = (k : ℕ) → k < j → row_at p.outcomes n file k ≡ row_at q.outcomes n file k

pub rows_end : (p q : PlanModel) (n file j : ℕ) → AreRowsTo p q n file j → row_at p.outcomes n file j ≡ None → row_at q.outcomes n file j ≡ None → HaveSameRow p q n file
rows_end p q n file j same one other k = ⊎_elim
    (λ (lt : k < j). same k lt)
    (λ (ge : j ≤ k). row_past p.outcomes n file j k one ge ∙ sym (row_past q.outcomes n file j k other ge))
    (cases_lt k j)

pub rows_more : (p q : PlanModel) (n file j : ℕ) → AreRowsTo p q n file j → row_at p.outcomes n file j ≡ row_at q.outcomes n file j → AreRowsTo p q n file (j + 1)
rows_more p q n file j same here k lt = ⊎_elim
    (λ (less : k < j). same k less)
    (λ (ge : j ≤ k). (let is : k ≡ j = omega (arith, lt, ge) in ap (λ x. row_at p.outcomes n file x) is ∙ here ∙ ap (λ x. row_at q.outcomes n file x) (sym is)))
    (cases_lt k j)
