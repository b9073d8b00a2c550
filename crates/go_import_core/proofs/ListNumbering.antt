-- The number of the package of a path.
use Rattle.std.proofs.Common.{◌≡◌, ℕ, zero, suc, ◌<◌, ◌≤◌, inl, inr, List, [], ◌∷◌, length, get_or, Option, Some, Result, Ok, Err, refl, sym, ◌∙◌, ap, subst, arith}
use lib.Dec.{ltb}
use Rattle.std.specs.Prelude.{MatchOption}
use Rattle.std.specs.List.Sorted.{IsBinarySearchResult, IsNonDecreasingBy, IsSearchInRange, IsStrictlySortedBy}
use Rattle.std.specs.Map.{keys_of}
use Rattle.std.specs.Ordering.{ordering_index}
use Rattle.std.specs.Result.{result_ok}
use Rattle.std.specs.declared.cmp.Ordering.TheVariants.{Less, Equal, Greater}
use Rattle.std.proofs.lemmas.Bool.{ltb-false, ltb-true}
use Rattle.std.proofs.lemmas.List.{length-map}
use Rattle.std.proofs.lemmas.Map.Keys.{Less-from_sorted}
use Rattle.std.proofs.lemmas.Option.{get_or_from_slice_get, slice_get-get_or, slice_get_within}
use Rattle.go_path_core.specs.text_core.Each.{true_or_false}
use Rattle.go_graph_core.specs.Imports.{HasNoPackage, IsNumbered}
use Rattle.go_graph_core.specs.Sources.{SourceModel}
use Rattle.go_graph_core.specs.Workspaces.{PackageModel, by_bytes}
use Rattle.go_graph_core.proofs.Places.{equal_texts, rises, same_text, some_item}

not_less : (x y : List ℕ) → by_bytes x y ≡ Less → x ≡ y → ⊥
not_less x y h e = (let t : Less ≡ Equal = sym h ∙ (ap (λ z. by_bytes x z) (sym e) ∙ same_text x) in cc)

not_greater : (x y : List ℕ) → by_bytes x y ≡ Greater → x ≡ y → ⊥
not_greater x y h e = (let t : Greater ≡ Equal = sym h ∙ (ap (λ z. by_bytes x z) (sym e) ∙ same_text x) in cc)

path_at : (ps : List PackageModel) (i : ℕ) (d : PackageModel) → get_or (keys_of ps) i d.0 ≡ (get_or ps i d).0
path_at [] i d = refl
path_at (p ∷ ps) zero d = refl
path_at (p ∷ ps) (suc i) d = path_at ps i d

path_below : (ps : List PackageModel) (i j : ℕ) (d : PackageModel) → IsStrictlySortedBy by_bytes (keys_of ps) → i < j → j < length ps → by_bytes (get_or ps i d).0 (get_or ps j d).0 ≡ Less
path_below ps i j d order below lt =
    let enough : j < length (keys_of ps) = subst (λ n. j < n) (sym (length-map ps (λ p. p.0))) lt in
    let compared : by_bytes (get_or (keys_of ps) i d.0) (get_or (keys_of ps) j d.0) ≡ Less = Less-from_sorted by_bytes (keys_of ps) i j d.0 order below enough in
    subst (λ k. by_bytes k (get_or ps j d).0 ≡ Less) (path_at ps i d) (subst (λ k. by_bytes (get_or (keys_of ps) i d.0) k ≡ Less) (path_at ps j d) compared)

told_in_turn : (ps : List PackageModel) (q : List ℕ) → IsStrictlySortedBy by_bytes (keys_of ps) → IsNonDecreasingBy (λ (p : PackageModel). ordering_index (by_bytes p.0 q)) ps
told_in_turn ps q order i j d up lt = elim (true_or_false (ltb i j)) [
  | inl less ↦ rises (get_or ps i d).0 (get_or ps j d).0 q (by_bytes (get_or ps j d).0 q) (path_below ps i j d order (ltb-true _ _ less) lt) refl
  | inr more ↦
      let le : j ≤ i = ltb-false _ _ more in
      let same : i ≡ j = omega arith in
      subst (λ k. ordering_index (by_bytes (get_or ps i d).0 q) ≤ ordering_index (by_bytes (get_or ps k d).0 q)) same (omega arith)
]

found : (ps : List PackageModel) (q : List ℕ) (i : ℕ) → IsSearchInRange (Ok i) (length ps) → IsBinarySearchResult (λ (p : PackageModel). by_bytes p.0 q) ps (Ok i) → (files : List SourceModel) × IsNumbered ps q i files
found ps q i within is =
    let d = (some_item ps i within).0 in
    let p : PackageModel = get_or ps i d in
    (p.1, slice_get-get_or ps i d within ∙ ap (λ (k : List ℕ). Some (k, p.1)) (equal_texts p.0 q (is d)))

not_found : (ps : List PackageModel) (q : List ℕ) (i : ℕ) → IsStrictlySortedBy by_bytes (keys_of ps) → IsBinarySearchResult (λ (p : PackageModel). by_bytes p.0 q) ps (Err i) → HasNoPackage ps q
not_found ps q i order is j files at =
    let cut = is (told_in_turn ps q order) in
    let x : PackageModel = (q, files) in
    let lt : j < length ps = slice_get_within ps j x at in
    let here : (get_or ps j x).0 ≡ q = ap (λ (p : PackageModel). p.0) (get_or_from_slice_get ps j x x at) in
    elim (true_or_false (ltb j i)) [
      | inl less ↦ not_less _ q (cut.0 j x (omega arith) (ltb-true _ _ less)) here
      | inr more ↦ not_greater _ q (cut.1 j x (ltb-false _ _ more) lt) here
    ]

-- what a search for a package answers
pub number_found : (ps : List PackageModel) (path : List ℕ) (r : Result ℕ ℕ) (o : Option ℕ) → o ≡ result_ok r → IsStrictlySortedBy by_bytes (keys_of ps) → IsSearchInRange r (length ps) → IsBinarySearchResult (λ (p : PackageModel). by_bytes p.0 path) ps r
    → MatchOption o (HasNoPackage ps path) (λ number. (files : List SourceModel) × IsNumbered ps path number files)
number_found ps path r o is order within search_is = subst (λ x. MatchOption x (HasNoPackage ps path) (λ number. (files : List SourceModel) × IsNumbered ps path number files)) (sym is) (by r within search_is)
  where
    by : (r : Result ℕ ℕ) → IsSearchInRange r (length ps) → IsBinarySearchResult (λ (p : PackageModel). by_bytes p.0 path) ps r → MatchOption (result_ok r) (HasNoPackage ps path) (λ number. (files : List SourceModel) × IsNumbered ps path number files)
    by (Ok i) low at = found ps path i low at
    by (Err i) low at = not_found ps path i order at
