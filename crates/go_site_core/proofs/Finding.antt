-- What a look-up by path finds.
use Rattle.std.proofs.Common.{◌≡◌, ℕ, zero, suc, ◌<◌, List, [], ◌∷◌, length, cond, Option, Some, None, Result, Ok, Err, slice_get, sym, ap, subst, ◌∙◌, arith}
use Rattle.std.specs.Prelude.{MatchOption}
use Rattle.std.specs.List.Sorted.{IsBinarySearchResult, IsSearchInRange}
use Rattle.std.specs.Ordering.{is_eq}
use Rattle.std.specs.Result.{result_ok}
use Rattle.std.specs.declared.cmp.Ordering.TheVariants.{Less}
use Rattle.std.proofs.lemmas.Map.Keys.{sorted_tail}
use Rattle.std.proofs.lemmas.Option.{get_or_from_slice_get, same_Some, slice_get_within}
use Rattle.std.specs.Map.{keys_of}
use Rattle.go_graph_core.proofs.Places.{IsOrdered, none_there, path_below, place_of, same_text, turned}
use Rattle.go_graph_core.specs.Imports.{IsNumbered}
use Rattle.go_graph_core.specs.Sources.{SourceModel}
use Rattle.go_graph_core.specs.Workspaces.{PackageModel, by_bytes, files_at}

-- the package that stands at a number is the one of its path
pub found_there : (ps : List PackageModel) (i : ℕ) (e : PackageModel) → IsOrdered ps → slice_get ps i ≡ Some e → files_at ps e.0 ≡ Some e.1
found_there [] i e ordered at = cc
found_there (p ∷ ps) zero e ordered at =
    let same : p ≡ e = same_Some p e at in
    subst (λ (x : PackageModel). files_at (p ∷ ps) x.0 ≡ Some x.1) same (ap (λ o. cond (is_eq o) (Some p.1) (files_at ps p.0)) (same_text p.0))
found_there (p ∷ ps) (suc i) e ordered at =
    let lt : i < length ps = slice_get_within ps i e at in
    let below : by_bytes p.0 e.0 ≡ Less = subst (λ (x : PackageModel). by_bytes p.0 x.0 ≡ Less) (get_or_from_slice_get ps i e e at) (path_below (p ∷ ps) 0 (suc i) e ordered (omega arith) (omega (arith, lt))) in
    ap (λ o. cond (is_eq o) (Some p.1) (files_at ps e.0)) (turned p.0 e.0 Less below) ∙ found_there ps i e (sorted_tail by_bytes p.0 (keys_of ps) ordered) at

abbrev pub IsFound : List PackageModel → List ℕ → ℕ → Type 0
IsFound ps path number = (files : List SourceModel) × IsNumbered ps path number files × (files_at ps path ≡ Some files)

-- what a search for a package answers
pub package_found : (ps : List PackageModel) (path : List ℕ) (r : Result ℕ ℕ) (o : Option ℕ) → o ≡ result_ok r → IsOrdered ps → IsSearchInRange r (length ps) → IsBinarySearchResult (λ (p : PackageModel). by_bytes p.0 path) ps r
    → MatchOption o (files_at ps path ≡ None) (IsFound ps path)
package_found ps path r o is ordered within search_is = subst (λ x. MatchOption x (files_at ps path ≡ None) (IsFound ps path)) (sym is) (by r within search_is)
  where
    by : (r : Result ℕ ℕ) → IsSearchInRange r (length ps) → IsBinarySearchResult (λ (p : PackageModel). by_bytes p.0 path) ps r → MatchOption (result_ok r) (files_at ps path ≡ None) (IsFound ps path)
    by (Ok i) low at =
        let f = place_of ps path (Ok i) ordered low at in
        let e = f.0 in
        (e.1, (f.1 ∙ ap (λ (k : List ℕ). Some (k, e.1)) f.2), (ap (files_at ps) (sym f.2) ∙ found_there ps i e ordered f.1))
    by (Err i) low at = (none_there ps i path (place_of ps path (Err i) ordered low at)).1
