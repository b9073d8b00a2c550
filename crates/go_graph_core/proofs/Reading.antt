-- Files that are read, and brought into the order of their names.
use Rattle.std.proofs.Common.{◌≡◌, ℕ, zero, suc, ◌<◌, ◌+◌, Bool, true, false, List, [], ◌∷◌, ◌++◌, map, length, get_or, All, Err, refl, sym, ◌∙◌, ap, subst, arith}
use Rattle.std.specs.Prelude.{string_bytes}
use Rattle.std.specs.List.{IsDistinct}
use Rattle.std.specs.List.Sorted.{IsStrictlySortedBy, IsPermutation, IsSortedBy}
use Rattle.std.specs.Ordering.{is_lt}
use Rattle.std.specs.Cmp.{both_ways, IsStrictWeakOrder}
use Rattle.std.specs.Str.{bytes_eq}
use Rattle.std.specs.Map.{keys_of}
use Rattle.std.specs.declared.string.String.{String}
use Rattle.std.specs.declared.cmp.Ordering.{Ordering}
use Rattle.std.specs.declared.cmp.Ordering.TheVariants.{Less, Equal, Greater}
use Rattle.std.proofs.lemmas.Cmp.{nat_list_cmp_total}
use Rattle.std.proofs.lemmas.List.{append-nil}
use Rattle.std.proofs.lemmas.List.Sorted.{IsPermutation-map, All-permutation}
use Rattle.std.proofs.lemmas.Map.Keys.{sorted_from_all_adjacent, apart_from_distinct, IsDistinct-IsPermutation}
use Rattle.std.proofs.lemmas.Slice.Eq.{bytes_eq-Decides}
use Rattle.go_collections_core.specs.text_core.declared.rule.Rule.TheVariants.{K4}
use Rattle.go_graph_core.specs.Sources.{SourceModel, source, IsRead}
use Rattle.go_graph_core.specs.Workspaces.{by_bytes, names_of_files, given_files, HaveDistinctNames, AreReadFrom}
use Rattle.go_graph_core.proofs.Places.{turned, equal_texts}

abbrev pub name_and_text : SourceModel → List ℕ × List ℕ
name_and_text f = (f.name, f.text)

abbrev pub by_name : SourceModel → SourceModel → Bool
by_name x y = is_lt (by_bytes x.name y.name)

-- nothing is left of a list that has been gone through
pub drained : {X : Type 0} (yielded rest all : List X) → length rest ≡ 0 → yielded ++ rest ≡ all → yielded ≡ all
drained yielded [] all h e = sym (append-nil yielded) ∙ e
drained yielded (x ∷ xs) all h e = absurd (omega (arith, h))

pub map_last : {X Y : Type 0} (f : X → Y) (xs : List X) (x : X) → map f (xs ++ x ∷ []) ≡ map f xs ++ f x ∷ []
map_last f [] x = refl
map_last f (y ∷ xs) x = ap (λ l. f y ∷ l) (map_last f xs x)

-- one more file that is read as it was given
pub read_more : {Y Z : Type 0} (fs new : List SourceModel) (done : List (String Y × String Z)) (f : SourceModel) (g : String Y × String Z) → new ≡ fs ++ f ∷ [] → map name_and_text fs ≡ given_files done → f.name ≡ string_bytes g.0 → f.text ≡ string_bytes g.1 → map name_and_text new ≡ given_files (done ++ g ∷ [])
read_more fs new done f g e same name text =
    ap (map name_and_text) e
    ∙ (map_last name_and_text fs f
    ∙ ((λ i. same i ++ (name i, text i) ∷ [])
    ∙ sym (map_last (λ x. (string_bytes x.0, string_bytes x.1)) done g)))

-- the order of names

less_of : (o : Ordering) → is_lt o ≡ true → o ≡ Less
less_of Less h = refl
less_of Equal h = cc
less_of Greater h = cc

pub weak : IsStrictWeakOrder by_name
weak = record {
  one_way = λ x y h. ap is_lt (turned x.name y.name Less (less_of _ h));
  chain = λ x y z p q. go x.name y.name z.name (by_bytes x.name z.name) (by_bytes x.name y.name) refl refl p q;
}
  where
    go : (x y z : List ℕ) (o s : Ordering) → by_bytes x z ≡ o → by_bytes x y ≡ s → is_lt (by_bytes x y) ≡ false → is_lt (by_bytes y z) ≡ false → is_lt o ≡ false
    go x y z Equal s e f p q = refl
    go x y z Greater s e f p q = refl
    go x y z Less Less e f p q = (let t : true ≡ false = sym (ap is_lt f) ∙ p in cc)
    go x y z Less Equal e f p q = (let t : true ≡ false = sym (ap is_lt (sym (nat_list_cmp_total.congr x y z f) ∙ e)) ∙ q in cc)
    go x y z Less Greater e f p q = (let t : true ≡ false = sym (ap is_lt (nat_list_cmp_total.trans y x z (turned x y Greater f) e)) ∙ q in cc)

nobody : SourceModel
nobody = source [] [] (Err (record { rule = K4; offset = 0 }))

name_at : (fs : List SourceModel) (k : ℕ) (d : SourceModel) → get_or (names_of_files fs) k d.name ≡ (get_or fs k d).name
name_at [] k d = refl
name_at (f ∷ fs) zero d = refl
name_at (f ∷ fs) (suc k) d = name_at fs k d

as_many_names : (fs : List SourceModel) → length (names_of_files fs) ≡ length fs
as_many_names [] = refl
as_many_names (f ∷ fs) = ap suc (as_many_names fs)

pub rising : (fs : List SourceModel) → IsSortedBy by_name fs → IsDistinct bytes_eq (names_of_files fs) → IsStrictlySortedBy by_bytes (names_of_files fs)
rising fs sorted distinct = sorted_from_all_adjacent nat_list_cmp_total (names_of_files fs) nobody.name (λ k lt. next k lt (by_bytes (get_or (names_of_files fs) k nobody.name) (get_or (names_of_files fs) (k + 1) nobody.name)) refl)
  where
    next : (k : ℕ) → k + 1 < length (names_of_files fs) → (o : Ordering) → by_bytes (get_or (names_of_files fs) k nobody.name) (get_or (names_of_files fs) (k + 1) nobody.name) ≡ o → by_bytes (get_or (names_of_files fs) k nobody.name) (get_or (names_of_files fs) (k + 1) nobody.name) ≡ Less
    next k lt Less e = e
    next k lt Equal e =
        let apart = apart_from_distinct bytes_eq (names_of_files fs) k (k + 1) nobody.name distinct (omega arith) lt in
        let same = (bytes_eq-Decides (get_or (names_of_files fs) k nobody.name) (get_or (names_of_files fs) (k + 1) nobody.name)).1 (equal_texts (get_or (names_of_files fs) k nobody.name) (get_or (names_of_files fs) (k + 1) nobody.name) e) in
        let t : true ≡ false = sym same ∙ apart in cc
    next k lt Greater e =
        let there : k + 1 < length fs = subst (λ n. k + 1 < n) (as_many_names fs) lt in
        let not_less : is_lt (by_bytes (get_or fs (k + 1) nobody).name (get_or fs k nobody).name) ≡ false = sorted k nobody (omega arith) there in
        let less : by_bytes (get_or (names_of_files fs) (k + 1) nobody.name) (get_or (names_of_files fs) k nobody.name) ≡ Less = turned (get_or (names_of_files fs) k nobody.name) (get_or (names_of_files fs) (k + 1) nobody.name) Greater e in
        let same : is_lt (by_bytes (get_or (names_of_files fs) (k + 1) nobody.name) (get_or (names_of_files fs) k nobody.name)) ≡ false = (λ i. is_lt (by_bytes (name_at fs (k + 1) nobody i) (name_at fs k nobody i))) ∙ not_less in
        let t : true ≡ false = sym (ap is_lt less) ∙ same in cc

names_again : (fs : List SourceModel) → keys_of (map name_and_text fs) ≡ names_of_files fs
names_again [] = refl
names_again (f ∷ fs) = ap (λ l. f.name ∷ l) (names_again fs)

flips : (x y : List ℕ) → bytes_eq x y ≡ bytes_eq y x
flips x y = both_ways (bytes_eq x y) (bytes_eq y x) (λ h. (bytes_eq-Decides y x).1 (sym ((bytes_eq-Decides x y).0 h))) (λ h. (bytes_eq-Decides x y).1 (sym ((bytes_eq-Decides y x).0 h)))

-- files that are read as given, and then sorted
pub are_read : (given : List (List ℕ × List ℕ)) (turn fs : List SourceModel) → HaveDistinctNames given → map name_and_text turn ≡ given → All IsRead turn → IsPermutation turn fs → IsSortedBy by_name fs → AreReadFrom given fs
are_read given turn fs distinct same read moved sorted =
    let permuted : IsPermutation given (map name_and_text fs) = subst (λ l. IsPermutation l (map name_and_text fs)) same (IsPermutation-map name_and_text turn fs moved) in
    let names : IsDistinct bytes_eq (names_of_files fs) = subst (IsDistinct bytes_eq) (names_again fs) (IsDistinct-IsPermutation bytes_eq flips (keys_of given) (keys_of (map name_and_text fs)) (IsPermutation-map (λ p. p.0) given (map name_and_text fs) permuted) distinct) in
    record { order = rising fs sorted names; same = permuted; contents = All-permutation IsRead turn fs moved read }
