-- What look-ups by path find.
use Rattle.std.proofs.Common.{◌≡◌, ℕ, List, length, Option, Some, None, Result, Ok, Err, slice_get, refl, sym, ap, subst, ◌∙◌}
use Rattle.std.specs.Prelude.{MatchOption}
use Rattle.std.specs.Borrow.{Bor}
use Rattle.std.specs.List.Sorted.{IsStrictlySortedBy, IsBinarySearchResult, IsSearchInRange}
use Rattle.std.specs.Map.{keys_of}
use Rattle.std.specs.Result.{result_ok}
use Rattle.std.proofs.lemmas.Option.{same_Some}
use Rattle.go_graph_core.specs.Imports.{HasNoPackage, IsNumbered}
use Rattle.go_graph_core.specs.Sources.{SourceModel}
use Rattle.go_graph_core.specs.Workspaces.{PackageModel, IsWorkspace, by_bytes}
use Rattle.go_emit_core.specs.package_core.PackagePartParts.{PartModel}
use Rattle.go_snap_core.proofs.WholeWorkspaceLists.{one_at}
use Rattle.go_snap_core.specs.make.Finding.{IsPartAt}
use Rattle.go_snap_core.proofs.MakeSearching.{found, not_found, one_key}

-- what a search for a package answers
pub package_found : (ps : List PackageModel) (path : List ℕ) (r : Result ℕ ℕ) (o : Option ℕ) → o ≡ result_ok r → IsStrictlySortedBy by_bytes (keys_of ps) → IsSearchInRange r (length ps) → IsBinarySearchResult (λ (p : PackageModel). by_bytes p.0 path) ps r
    → MatchOption o (HasNoPackage ps path) (λ number. (files : List SourceModel) × IsNumbered ps path number files)
package_found ps path r o is order within search_is = subst (λ x. MatchOption x (HasNoPackage ps path) (λ number. (files : List SourceModel) × IsNumbered ps path number files)) (sym is) (by r within search_is)
  where
    by : (r : Result ℕ ℕ) → IsSearchInRange r (length ps) → IsBinarySearchResult (λ (p : PackageModel). by_bytes p.0 path) ps r → MatchOption (result_ok r) (HasNoPackage ps path) (λ number. (files : List SourceModel) × IsNumbered ps path number files)
    by (Ok i) low at = (let f = found (λ (p : PackageModel). p.0) ps path i low at in (f.0.1, f.1 ∙ ap (λ (k : List ℕ). Some (k, f.0.1)) f.2))
    by (Err i) low at = λ j files numbered. not_found (λ (p : PackageModel). p.0) ps path i order at j (path, files) numbered refl

-- a path has at most one part
module _ (ps : List PackageModel) (well : IsWorkspace ps) (parts : List (Option PartModel)) (path : List ℕ) where
  pub one_part_at : (p q : PartModel) → IsPartAt ps parts path p → IsPartAt ps parts path q → p ≡ q
  one_part_at p q h k =
      let same : h.number ≡ k.number = one_key (λ (x : PackageModel). x.0) ps h.number k.number (path, h.files) (path, k.files) well.order h.numbered k.numbered refl in
      let there : slice_get parts k.number ≡ Some (Some p) = subst (λ n. slice_get parts n ≡ Some (Some p)) same h.there in
      same_Some p q (one_at parts k.number (Some p) (Some q) there k.there)

-- what the search for a part answers
pub part_found : (ps qs : List PackageModel) (parts xs : List (Option PartModel)) (path q : List ℕ) (number : ℕ) (files : List SourceModel) (r : Option (Bor PartModel)) → IsWorkspace ps → qs ≡ ps → xs ≡ parts → q ≡ path → IsNumbered qs q number files
    → MatchOption r ((p : PartModel) → slice_get xs number ≡ Some (Some p) → ⊥) (λ p. slice_get xs number ≡ Some (Some p.now))
    → MatchOption r ((p : PartModel) → IsPartAt ps parts path p → ⊥) (λ p. IsPartAt ps parts path p.now)
part_found ps qs parts xs path q number files r well packages are named numbered h = by r h
  where
    at : slice_get ps number ≡ Some (path, files)
    at = subst (λ (k : List ℕ). slice_get ps number ≡ Some (k, files)) named (subst (λ l. slice_get l number ≡ Some (q, files)) packages numbered)

    by : (r : Option (Bor PartModel)) → MatchOption r ((p : PartModel) → slice_get xs number ≡ Some (Some p) → ⊥) (λ p. slice_get xs number ≡ Some (Some p.now)) → MatchOption r ((p : PartModel) → IsPartAt ps parts path p → ⊥) (λ p. IsPartAt ps parts path p.now)
    by None h = λ p k.
        let same : k.number ≡ number = one_key (λ (x : PackageModel). x.0) ps k.number number (path, k.files) (path, files) well.order k.numbered at refl in
        h p (subst (λ l. slice_get l number ≡ Some (Some p)) (sym are) (subst (λ n. slice_get parts n ≡ Some (Some p)) same k.there))
    by (Some p) h = record { number = number; files = files; numbered = at; there = subst (λ l. slice_get l number ≡ Some (Some p.now)) are h }
