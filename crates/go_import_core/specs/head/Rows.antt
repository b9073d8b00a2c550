-- What the imports of a file, and of a package, come to by two plans.
use Rattle.std.specs.Prelude.{◌≡◌, ◌<◌, ℕ, ◌+◌, ◌^◌, List, Option, None, option_and_then, slice_get}
use Rattle.go_graph_core.specs.declared.imports.ImportOutcome.{ImportOutcome}
use Rattle.go_graph_core.specs.Plans.{PlanModel}

-- what the import of a number comes to, in the file of a number of the package of a number
abbrev pub row_at : List (List (List ImportOutcome)) → ℕ → ℕ → ℕ → Option ImportOutcome
row_at outcomes n file k = option_and_then (λ os. slice_get os k) (option_and_then (λ fs. slice_get fs file) (slice_get outcomes n))

abbrev pub HaveSameRow : PlanModel → PlanModel → ℕ → ℕ → Type 0
HaveSameRow p q n file = (k : ℕ) → row_at p.outcomes n file k ≡ row_at q.outcomes n file k

abbrev pub HaveSameRows : PlanModel → PlanModel → ℕ → ℕ → Type 0
HaveSameRows p q n files = (file : ℕ) → file < files → HaveSameRow p q n file

-- there are fewer imports in the file than a `usize` counts
abbrev pub EndsRow : PlanModel → ℕ → ℕ → Type 0
EndsRow p n file = (k : ℕ) × (k + 1 < 2 ^ 64) × (row_at p.outcomes n file k ≡ None)

-- and in each of so many files
abbrev pub EndsRows : PlanModel → ℕ → ℕ → Type 0
EndsRows p n files = (file : ℕ) → file < files → EndsRow p n file
