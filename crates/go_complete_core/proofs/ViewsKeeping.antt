-- What is kept of what is reached.
use Rattle.std.proofs.Common.{◌≡◌, ℕ, ◌+◌, ◌<◌, ◌≤◌, List, [], ◌∷◌, ◌++◌, take, length, get_or, cond, Bool, Some, sym, ap, ◌∙◌}
use Rattle.std.specs.Prelude.{slice_get}
use Rattle.std.specs.Borrow.{Bor}
use Rattle.std.specs.List.{filter}
use Rattle.std.proofs.lemmas.List.{take_all}
use Rattle.std.proofs.lemmas.List.Elements.{filter_agree, filter_more}
use Rattle.std.proofs.lemmas.Option.{slice_get_within, get_or_from_slice_get}
use Rattle.go_names_core.specs.block_core.declared.imports.Imported.{Imported}
use Rattle.go_package_core.specs.summary_core.Summaries.{SummaryModel, path_of}
use Rattle.go_package_core.specs.package_part.Inputs.{InputModel}
use Rattle.go_complete_core.specs.views.Imported.{has_path, is_imported, told_by_imports}

module _ (paths : List (Bor (List ℕ))) where
  abbrev pub is_of : SummaryModel → Bool
  is_of s = has_path paths (path_of s)

  -- one more is kept, or not
  pub kept_more : (ss : List SummaryModel) (n : ℕ) (s : SummaryModel) (kept more : List SummaryModel) → slice_get ss n ≡ Some s → kept ≡ filter is_of (take n ss) → more ≡ kept ++ cond (is_of s) (s ∷ []) []
      → more ≡ filter is_of (take (n + 1) ss)
  kept_more ss n s kept more at before added =
      let lt : n < length ss = slice_get_within ss n s at in
      let is : s ≡ get_or ss n s = sym (get_or_from_slice_get ss n s s at) in
      added ∙ (ap (λ l. l ++ cond (is_of s) (s ∷ []) []) before ∙ ((λ j. filter is_of (take n ss) ++ cond (is_of (is j)) (is j ∷ []) []) ∙ sym (filter_more is_of ss n s lt)))

  -- in the end what those tell that imports come to, by their paths
  pub kept_are : (i : InputModel) (files : List (List Imported)) (ss kept : List SummaryModel) (n : ℕ) → ((path : List ℕ) → has_path paths path ≡ is_imported files path) → files ≡ i.imports → ss ≡ i.reached → length ss ≤ n
      → kept ≡ filter is_of (take n ss) → kept ≡ told_by_imports i
  kept_are i files ss kept n same of_files of_ss le before =
      before
      ∙ (ap (filter is_of) (take_all n ss le ∙ of_ss) ∙ filter_agree is_of (λ s. is_imported i.imports (path_of s)) (λ s. same (path_of s) ∙ ap (λ (fs : List (List Imported)). is_imported fs (path_of s)) of_files) i.reached)
