-- Lists of packages in order of path: what stands at a place, what a put leaves there, and what look-ups find.
use Rattle.std.proofs.Common.{◌≡◌, ℕ, zero, suc, ◌<◌, ◌≤◌, ◌⊎◌, inl, inr, Bool, true, false, cond, List, [], ◌∷◌, length, get_or, set, Some, None, Result, Ok, Err, slice_get, refl, sym, ◌∙◌, ap, subst, arith}
use Rattle.std.specs.List.{AllByRecursion, AllWithin, insert, remove}
use Rattle.std.specs.List.Sorted.{IsStrictlySortedBy, IsNonDecreasingBy, IsBinarySearchResult, IsSearchInRange}
use Rattle.std.proofs.lemmas.Bool.{ltb-true, ltb-false}
use lib.Dec.{ltb}
use Rattle.std.specs.Ordering.{ordering_index, ordering_reverse, match_ordering, is_eq}
use Rattle.std.specs.declared.cmp.Ordering.{Ordering}
use Rattle.std.specs.declared.cmp.Ordering.TheVariants.{Less, Equal, Greater}
use Rattle.std.specs.BTreeMap.{insert_entry, is_at}
use Rattle.std.specs.Map.{keys_of, remove_entry}
use Rattle.std.proofs.lemmas.Cmp.{nat_list_cmp_total}
use Rattle.std.proofs.lemmas.List.{length-map}
use Rattle.std.proofs.lemmas.Map.Keys.{sorted_head, sorted_tail, Less-from_sorted}
use Rattle.std.proofs.lemmas.Map.Text.{is_eq-slice_cmp}
use Rattle.std.proofs.lemmas.Option.{slice_get-get_or}
use Rattle.std.proofs.lemmas.Slice.Eq.{bytes_eq-Decides}
use Rattle.go_graph_core.specs.mirrors.Positions.{IsPosition}
use Rattle.go_graph_core.specs.Sources.{SourceModel}
use Rattle.go_graph_core.specs.Workspaces.{PackageModel, by_bytes, files_at, IsWorkspace, IsReadWorkspace}

abbrev pub IsOrdered : List PackageModel → Type 0
IsOrdered ps = IsStrictlySortedBy by_bytes (keys_of ps)

-- the order of texts

pub turned : (x y : List ℕ) (o : Ordering) → by_bytes x y ≡ o → by_bytes y x ≡ ordering_reverse o
turned x y o h = nat_list_cmp_total.antisymm y x ∙ ap ordering_reverse h

pub equal_texts : (x y : List ℕ) → by_bytes x y ≡ Equal → x ≡ y
equal_texts x y h = (bytes_eq-Decides x y).0 (sym (is_eq-slice_cmp x y) ∙ ap is_eq h)

pub same_text : (x : List ℕ) → by_bytes x x ≡ Equal
same_text x = by_cases (by_bytes x x) refl
  where
    by_cases : (o : Ordering) → by_bytes x x ≡ o → by_bytes x x ≡ Equal
    by_cases Equal h = h
    by_cases Less h = (let t : Less ≡ Greater = sym h ∙ turned x x Less h in cc)
    by_cases Greater h = (let t : Greater ≡ Less = sym h ∙ turned x x Greater h in cc)

-- a text below another is told no later than that one by what they are compared with
pub rises : (x y q : List ℕ) (o : Ordering) → by_bytes x y ≡ Less → by_bytes y q ≡ o → ordering_index (by_bytes x q) ≤ ordering_index o
rises x y q Less up h = subst (λ p. ordering_index p ≤ 0) (sym (nat_list_cmp_total.trans x y q up h)) (omega arith)
rises x y q Equal up h = subst (λ z. ordering_index (by_bytes x z) ≤ 1) (equal_texts y q h) (subst (λ p. ordering_index p ≤ 1) (sym up) (omega arith))
rises x y q Greater up h = at_most (by_bytes x q)
  where
    at_most : (p : Ordering) → ordering_index p ≤ 2
    at_most Less = omega arith
    at_most Equal = omega arith
    at_most Greater = omega arith

key_at : (ps : List PackageModel) (i : ℕ) (d : PackageModel) → get_or (keys_of ps) i d.0 ≡ (get_or ps i d).0
key_at [] i d = refl
key_at (p ∷ ps) zero d = refl
key_at (p ∷ ps) (suc i) d = key_at ps i d

-- a path below another
pub path_below : (ps : List PackageModel) (i j : ℕ) (d : PackageModel) → IsOrdered ps → i < j → j < length ps → by_bytes (get_or ps i d).0 (get_or ps j d).0 ≡ Less
path_below ps i j d ordered below lt =
    let enough : j < length (keys_of ps) = subst (λ n. j < n) (sym (length-map ps (λ p. p.0))) lt in
    let compared : by_bytes (get_or (keys_of ps) i d.0) (get_or (keys_of ps) j d.0) ≡ Less = Less-from_sorted by_bytes (keys_of ps) i j d.0 ordered below enough in
    subst (λ k. by_bytes k (get_or ps j d).0 ≡ Less) (key_at ps i d) (subst (λ k. by_bytes (get_or (keys_of ps) i d.0) k ≡ Less) (key_at ps j d) compared)

told_in_turn : (ps : List PackageModel) (q : List ℕ) → IsOrdered ps → IsNonDecreasingBy (λ p. ordering_index (by_bytes p.0 q)) ps
told_in_turn ps q ordered i j d up lt = elim (two (ltb i j)) [
  | inl less ↦
      let below : i < j = ltb-true _ _ less in
      rises (get_or ps i d).0 (get_or ps j d).0 q (by_bytes (get_or ps j d).0 q) (path_below ps i j d ordered below lt) refl
  | inr more ↦
      let le : j ≤ i = ltb-false _ _ more in
      let same : i ≡ j = omega arith in
      subst (λ k. ordering_index (by_bytes (get_or ps i d).0 q) ≤ ordering_index (by_bytes (get_or ps k d).0 q)) same (omega arith)
]
  where
    two : (b : Bool) → (b ≡ true) ⊎ (b ≡ false)
    two true = inl refl
    two false = inr refl

-- what a search says

pub some_item : {A : Type 0} (xs : List A) (i : ℕ) → i < length xs → (x : A) × (slice_get xs i ≡ Some x)
some_item [] i lt = absurd (omega arith)
some_item (x ∷ xs) zero lt = (x, refl)
some_item (x ∷ xs) (suc i) lt = some_item xs i (omega (arith, lt))

pub place_of : (ps : List PackageModel) (q : List ℕ) (r : Result ℕ ℕ) → IsOrdered ps → IsSearchInRange r (length ps) → IsBinarySearchResult (λ p. by_bytes p.0 q) ps r → IsPosition ps q r
place_of ps q (Ok i) ordered within found =
    let d = (some_item ps i within).0 in
    (get_or ps i d, slice_get-get_or ps i d within, equal_texts _ q (found d))
place_of ps q (Err i) ordered within found = (let cut = found (told_in_turn ps q ordered) in (within, cut.0, cut.1))

-- what stands behind a smaller first path
head_below : (p : PackageModel) (ps : List PackageModel) (i : ℕ) (e : PackageModel) → IsOrdered (p ∷ ps) → slice_get ps i ≡ Some e → by_bytes p.0 e.0 ≡ Less
head_below p ps i e ordered at = go ps i (sorted_head by_bytes p.0 (keys_of ps) ordered) at
  where
    go : (qs : List PackageModel) (k : ℕ) → AllByRecursion (λ y. by_bytes p.0 y ≡ Less) (keys_of qs) → slice_get qs k ≡ Some e → by_bytes p.0 e.0 ≡ Less
    go [] k all at' = cc
    go (x ∷ xs) zero all at' = (let same : x ≡ e = (let j : Some x ≡ Some e = at' in cc) in subst (λ y. by_bytes p.0 y.0 ≡ Less) same all.0)
    go (x ∷ xs) (suc k) all at' = go xs k all.1 at'

-- at a place with the path

pub put_there : (ps : List PackageModel) (i : ℕ) (e : PackageModel) (q : List ℕ) (v : List SourceModel) → IsOrdered ps → slice_get ps i ≡ Some e → e.0 ≡ q → insert_entry by_bytes ps q v ≡ set ps i (q, v)
put_there [] i e q v ordered at same = cc
put_there (p ∷ ps) zero e q v ordered at same =
    let key : p.0 ≡ q = (let j : Some p ≡ Some e = at in ap (λ (x : PackageModel). x.0) (some_same j) ∙ same) in
    ap (λ o. match_ordering o ((q, v) ∷ p ∷ ps) ((p.0, v) ∷ ps) (p ∷ insert_entry by_bytes ps q v)) (subst (λ k. by_bytes q k ≡ Equal) (sym key) (same_text q))
    ∙ ap (λ k. (k, v) ∷ ps) key
  where
    some_same : {x y : PackageModel} → Some x ≡ Some y → x ≡ y
    some_same j = cc
put_there (p ∷ ps) (suc i) e q v ordered at same =
    let less : by_bytes p.0 q ≡ Less = subst (λ k. by_bytes p.0 k ≡ Less) same (head_below p ps i e ordered at) in
    ap (λ o. match_ordering o ((q, v) ∷ p ∷ ps) ((p.0, v) ∷ ps) (p ∷ insert_entry by_bytes ps q v)) (turned p.0 q Less less)
    ∙ ap (λ l. p ∷ l) (put_there ps i e q v (sorted_tail by_bytes p.0 (keys_of ps) ordered) at same)

pub removed_there : (ps : List PackageModel) (i : ℕ) (e : PackageModel) (q : List ℕ) → IsOrdered ps → slice_get ps i ≡ Some e → e.0 ≡ q → remove_entry (is_at (by_bytes q)) ps ≡ remove ps i
removed_there [] i e q ordered at same = cc
removed_there (p ∷ ps) zero e q ordered at same =
    let key : p.0 ≡ q = (let j : Some p ≡ Some e = at in ap (λ (x : PackageModel). x.0) (some_same j) ∙ same) in
    ap (λ o. cond (is_eq o) ps (p ∷ remove_entry (is_at (by_bytes q)) ps)) (subst (λ k. by_bytes q k ≡ Equal) (sym key) (same_text q))
  where
    some_same : {x y : PackageModel} → Some x ≡ Some y → x ≡ y
    some_same j = cc
removed_there (p ∷ ps) (suc i) e q ordered at same =
    let less : by_bytes p.0 q ≡ Less = subst (λ k. by_bytes p.0 k ≡ Less) same (head_below p ps i e ordered at) in
    ap (λ o. cond (is_eq o) ps (p ∷ remove_entry (is_at (by_bytes q)) ps)) (turned p.0 q Less less)
    ∙ ap (λ l. p ∷ l) (removed_there ps i e q (sorted_tail by_bytes p.0 (keys_of ps) ordered) at same)

-- at a place between others

abbrev pub IsGap : List PackageModel → List ℕ → ℕ → Type 0
IsGap ps q i = (i ≤ length ps) × AllWithin (λ p. by_bytes p.0 q ≡ Less) ps 0 i × AllWithin (λ p. by_bytes p.0 q ≡ Greater) ps i (length ps)

tail_gap : (p : PackageModel) (ps : List PackageModel) (q : List ℕ) (i : ℕ) → IsGap (p ∷ ps) q (suc i) → IsGap ps q i
tail_gap p ps q i g = (omega (arith, g.0), (λ k d low up. g.1 (suc k) d (omega arith) (omega arith)), (λ k d low up. g.2 (suc k) d (omega arith) (omega arith)))

pub put_between : (ps : List PackageModel) (i : ℕ) (q : List ℕ) (v : List SourceModel) → IsGap ps q i → insert_entry by_bytes ps q v ≡ insert ps i (q, v)
put_between [] zero q v g = refl
put_between [] (suc i) q v g = absurd (omega (arith, g.0))
put_between (p ∷ ps) zero q v g =
    ap (λ o. match_ordering o ((q, v) ∷ p ∷ ps) ((p.0, v) ∷ ps) (p ∷ insert_entry by_bytes ps q v)) (turned p.0 q Greater (g.2 0 p (omega arith) (omega arith)))
put_between (p ∷ ps) (suc i) q v g =
    ap (λ o. match_ordering o ((q, v) ∷ p ∷ ps) ((p.0, v) ∷ ps) (p ∷ insert_entry by_bytes ps q v)) (turned p.0 q Less (g.1 0 p (omega arith) (omega arith)))
    ∙ ap (λ l. p ∷ l) (put_between ps i q v (tail_gap p ps q i g))

-- nothing is at a path that stands between others
pub none_there : (ps : List PackageModel) (i : ℕ) (q : List ℕ) → IsGap ps q i → (remove_entry (is_at (by_bytes q)) ps ≡ ps) × (files_at ps q ≡ None)
none_there [] i q g = (refl, refl)
none_there (p ∷ ps) zero q g =
    let less = turned p.0 q Greater (g.2 0 p (omega arith) (omega arith)) in
    let rest = none_there ps zero q (omega arith, (λ k d low up. absurd (omega arith)), (λ k d low up. g.2 (suc k) d (omega arith) (omega arith))) in
    (ap (λ o. cond (is_eq o) ps (p ∷ remove_entry (is_at (by_bytes q)) ps)) less ∙ ap (λ l. p ∷ l) rest.0, ap (λ o. cond (is_eq o) (Some p.1) (files_at ps q)) less ∙ rest.1)
none_there (p ∷ ps) (suc i) q g =
    let more = turned p.0 q Less (g.1 0 p (omega arith) (omega arith)) in
    let rest = none_there ps i q (tail_gap p ps q i g) in
    (ap (λ o. cond (is_eq o) ps (p ∷ remove_entry (is_at (by_bytes q)) ps)) more ∙ ap (λ l. p ∷ l) rest.0, ap (λ o. cond (is_eq o) (Some p.1) (files_at ps q)) more ∙ rest.1)

-- a workspace without packages
pub no_packages : IsWorkspace []
unfolding IsStrictlySortedBy
no_packages = record { order = tt; packages = λ k d lt. absurd (omega arith) }

pub none_read : IsReadWorkspace []
none_read = record { well = no_packages; read = λ k d lt. absurd (omega arith) }
