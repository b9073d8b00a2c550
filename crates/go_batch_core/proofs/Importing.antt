-- Imports that come to no package that is marked.
use Rattle.std.proofs.Common.{◌≡◌, ◌<◌, ◌≤◌, ⊎_elim, ℕ, zero, suc, ◌+◌, Bool, true, List, [], ◌∷◌, length, Option, Some, None, refl, sym, ap, ◌∙◌, arith, subst}
use Rattle.std.specs.Prelude.{option_and_then, slice_get}
use Rattle.std.proofs.lemmas.Bool.{cases_lt}
use Rattle.std.proofs.lemmas.Option.{slice_get_past, slice_get_within}
use Rattle.go_block_core.specs.graph_core.declared.imports.ImportAt.{ImportAt}
use Rattle.go_block_core.specs.graph_core.declared.imports.ImportOutcome.{ImportOutcome}
use Rattle.go_block_core.specs.graph_core.declared.imports.ImportOutcome.TheVariants.{Package}
use Rattle.go_block_core.specs.graph_core.Imports.{IsOutcome}
use Rattle.go_block_core.specs.graph_core.Plans.{IsPlan, PlanModel}
use Rattle.go_block_core.specs.graph_core.Workspaces.{PackageModel, IsWorkspace}
use Rattle.go_import_core.specs.head.Rows.{row_at}
use Rattle.go_batch_core.specs.mirrors.Rows.{AreRowsClear, IsClear, IsRowClear, IsRowClearTo}
use Rattle.go_batch_core.proofs.Passing.{planned_at}

past : {X : Type 0} (xs : List X) (j k : ℕ) → slice_get xs j ≡ None → j ≤ k → slice_get xs k ≡ None
past xs j k none le = slice_get_past xs k (omega (arith, le, ends xs j none))
  where
    ends : {X : Type 0} (xs : List X) (j : ℕ) → slice_get xs j ≡ None → length xs ≤ j
    ends [] j e = omega arith
    ends (x ∷ xs) zero e = absurd cc
    ends (x ∷ xs) (suc j) e = omega (arith, ends xs j e)

-- behind an import that is not there is none
row_past : (os : List (List (List ImportOutcome))) (n file j k : ℕ) → row_at os n file j ≡ None → j ≤ k → row_at os n file k ≡ None
row_past os n file j k none le = by_package (slice_get os n) none
  where
    by_file : (o : Option (List ImportOutcome)) → option_and_then (λ is. slice_get is j) o ≡ None → option_and_then (λ is. slice_get is k) o ≡ None
    by_file None e = refl
    by_file (Some is) e = past is j k e le

    by_package : (o : Option (List (List ImportOutcome))) → option_and_then (λ is. slice_get is j) (option_and_then (λ fs. slice_get fs file) o) ≡ None → option_and_then (λ is. slice_get is k) (option_and_then (λ fs. slice_get fs file) o) ≡ None
    by_package None e = refl
    by_package (Some fs) e = by_file (slice_get fs file) e

-- one import more
pub clear_more : (p : PlanModel) (n file : ℕ) (marks : List Bool) (j : ℕ) (o : ImportOutcome) → IsRowClearTo p n file marks j → row_at p.outcomes n file j ≡ Some o → IsClear o marks → IsRowClearTo p n file marks (j + 1)
clear_more p n file marks j o clear here is k lt m there marked = ⊎_elim
    (λ (less : k < j). clear k less m there marked)
    (λ (ge : j ≤ k).
    let same : j ≡ k = omega (arith, lt, ge) in
    let both : Some o ≡ Some (Package m) = sym here ∙ ap (λ x. row_at p.outcomes n file x) same ∙ there in
    let target : o ≡ Package m = cc in
    is m target marked)
    (cases_lt k j)

-- all of them
pub clear_end : (p : PlanModel) (n file : ℕ) (marks : List Bool) (j : ℕ) → IsRowClearTo p n file marks j → row_at p.outcomes n file j ≡ None → IsRowClear p n file marks
clear_end p n file marks j clear none k m there marked = ⊎_elim
    (λ (less : k < j). clear k less m there marked)
    (λ (ge : j ≤ k). (let no : ◌≡◌ {A = Option ImportOutcome} None (Some (Package m)) = sym (row_past p.outcomes n file j k none ge) ∙ there in absurd cc))
    (cases_lt k j)

-- so no import of the package comes to one that is marked
pub imports_clear : (ps : List PackageModel) (plan : PlanModel) (n files : ℕ) (marks : List Bool) → IsWorkspace ps → IsPlan ps plan → ((q : PackageModel) → slice_get ps n ≡ Some q → files ≡ length q.1) → AreRowsClear plan n marks files → (at : ImportAt) (m : ℕ)
    → at.«package» ≡ n → IsOutcome ps at (Package m) → slice_get marks m ≡ Some true → ⊥
imports_clear ps plan n files marks well planned many clear at m here outcome marked =
    let found = planned_at ps plan at m well planned outcome in
    let there = outcome.there in
    let numbered : slice_get ps n ≡ Some (outcome.q, there.files) = ap (λ k. slice_get ps k) (sym here) ∙ there.numbered in
    let within : at.file < length there.files = slice_get_within there.files at.file there.file there.in_files in
    let below : at.file < files = subst (λ k. at.file < k) (sym (many (outcome.q, there.files) numbered)) within in
    clear at.file below at.import m (subst (λ k. row_at plan.outcomes k at.file at.import ≡ Some (Package m)) here found) marked
