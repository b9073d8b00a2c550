-- Searches in lists whose keys are texts in strict order.
use Rattle.std.proofs.Common.{◌≡◌, ℕ, zero, suc, ◌<◌, ◌≤◌, inl, inr, List, [], ◌∷◌, length, get_or, map, Some, Ok, Err, slice_get, refl, sym, ◌∙◌, ap, subst, arith}
use lib.Dec.{ltb}
use Rattle.std.specs.Ordering.{ordering_index}
use Rattle.std.specs.declared.cmp.Ordering.TheVariants.{Less, Equal, Greater}
use Rattle.std.specs.List.Sorted.{IsStrictlySortedBy, IsNonDecreasingBy, IsBinarySearchResult, IsSearchInRange}
use Rattle.std.proofs.lemmas.Bool.{ltb-true, ltb-false}
use Rattle.std.proofs.lemmas.List.{length-map}
use Rattle.std.proofs.lemmas.Map.Keys.{Less-from_sorted}
use Rattle.std.proofs.lemmas.Option.{slice_get_within, slice_get-get_or, get_or_from_slice_get}
use Rattle.go_path_core.specs.text_core.Each.{true_or_false}
use Rattle.go_graph_core.specs.Workspaces.{by_bytes}
use Rattle.go_graph_core.proofs.Places.{equal_texts, rises, same_text, some_item, turned}

-- the order of texts

not_less : (x y : List ℕ) → by_bytes x y ≡ Less → x ≡ y → ⊥
not_less x y h e = (let t : Less ≡ Equal = sym h ∙ (ap (λ z. by_bytes x z) (sym e) ∙ same_text x) in cc)

not_greater : (x y : List ℕ) → by_bytes x y ≡ Greater → x ≡ y → ⊥
not_greater x y h e = (let t : Greater ≡ Equal = sym h ∙ (ap (λ z. by_bytes x z) (sym e) ∙ same_text x) in cc)

-- no two texts are each below the other
pub never_less : (x y : List ℕ) → by_bytes x y ≡ Less → by_bytes y x ≡ Less → ⊥
never_less x y h k = (let t : Greater ≡ Less = sym (turned x y Less h) ∙ k in cc)

module _ {A : Type 0} (key : A → List ℕ) where
  abbrev pub IsOrdered : List A → Type 0
  IsOrdered xs = IsStrictlySortedBy by_bytes (map key xs)

  key_at : (xs : List A) (i : ℕ) (d : A) → get_or (map key xs) i (key d) ≡ key (get_or xs i d)
  key_at [] i d = refl
  key_at (x ∷ xs) zero d = refl
  key_at (x ∷ xs) (suc i) d = key_at xs i d

  key_below : (xs : List A) (i j : ℕ) (d : A) → IsOrdered xs → i < j → j < length xs → by_bytes (key (get_or xs i d)) (key (get_or xs j d)) ≡ Less
  key_below xs i j d ordered below lt =
      let enough : j < length (map key xs) = subst (λ n. j < n) (sym (length-map xs key)) lt in
      let compared : by_bytes (get_or (map key xs) i (key d)) (get_or (map key xs) j (key d)) ≡ Less = Less-from_sorted by_bytes (map key xs) i j (key d) ordered below enough in
      subst (λ k. by_bytes k (key (get_or xs j d)) ≡ Less) (key_at xs i d) (subst (λ k. by_bytes (get_or (map key xs) i (key d)) k ≡ Less) (key_at xs j d) compared)

  told_in_turn : (xs : List A) (q : List ℕ) → IsOrdered xs → IsNonDecreasingBy (λ x. ordering_index (by_bytes (key x) q)) xs
  told_in_turn xs q ordered i j d up lt = elim (true_or_false (ltb i j)) [
    | inl less ↦
        let below : i < j = ltb-true _ _ less in
        rises (key (get_or xs i d)) (key (get_or xs j d)) q (by_bytes (key (get_or xs j d)) q) (key_below xs i j d ordered below lt) refl
    | inr more ↦
        let le : j ≤ i = ltb-false _ _ more in
        let same : i ≡ j = omega arith in
        subst (λ k. ordering_index (by_bytes (key (get_or xs i d)) q) ≤ ordering_index (by_bytes (key (get_or xs k d)) q)) same (omega arith)
  ]

  -- no two items have one key
  pub one_key : (xs : List A) (i j : ℕ) (x y : A) → IsOrdered xs → slice_get xs i ≡ Some x → slice_get xs j ≡ Some y → key x ≡ key y → i ≡ j
  one_key xs i j x y ordered p q same =
      let low : i < length xs = slice_get_within xs i x p in
      let high : j < length xs = slice_get_within xs j y q in
      let first : get_or xs i x ≡ x = get_or_from_slice_get xs i x x p in
      let second : get_or xs j x ≡ y = get_or_from_slice_get xs j y x q in
      let keys : key (get_or xs i x) ≡ key (get_or xs j x) = ap key first ∙ (same ∙ ap key (sym second)) in
      elim (true_or_false (ltb i j)) [
        | inl less ↦ absurd (not_less _ _ (key_below xs i j x ordered (ltb-true _ _ less) high) keys)
        | inr more ↦ elim (true_or_false (ltb j i)) [
          | inl less ↦ absurd (not_less _ _ (key_below xs j i x ordered (ltb-true _ _ less) low) (sym keys))
          | inr less ↦ (let a : j ≤ i = ltb-false _ _ more in let b : i ≤ j = ltb-false _ _ less in omega (arith, a, b))
        ]
      ]

  -- what a search found has the key
  pub found : (xs : List A) (q : List ℕ) (i : ℕ) → IsSearchInRange (Ok i) (length xs) → IsBinarySearchResult (λ x. by_bytes (key x) q) xs (Ok i) → (x : A) × (slice_get xs i ≡ Some x) × (key x ≡ q)
  found xs q i within is =
      let d = (some_item xs i within).0 in
      (get_or xs i d, slice_get-get_or xs i d within, equal_texts _ q (is d))

  -- where a search finds nothing, no item has the key
  pub not_found : (xs : List A) (q : List ℕ) (i : ℕ) → IsOrdered xs → IsBinarySearchResult (λ x. by_bytes (key x) q) xs (Err i) → (j : ℕ) (x : A) → slice_get xs j ≡ Some x → key x ≡ q → ⊥
  not_found xs q i ordered is j x at same =
      let cut = is (told_in_turn xs q ordered) in
      let lt : j < length xs = slice_get_within xs j x at in
      let here : key (get_or xs j x) ≡ q = ap key (get_or_from_slice_get xs j x x at) ∙ same in
      elim (true_or_false (ltb j i)) [
        | inl less ↦ not_less _ q (cut.0 j x (omega arith) (ltb-true _ _ less)) here
        | inr more ↦ not_greater _ q (cut.1 j x (ltb-false _ _ more) lt) here
      ]
