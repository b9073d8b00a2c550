-- Symbols in byte order of name.
use Rattle.std.proofs.Common.{◌≡◌, ℕ, zero, suc, ◌+◌, ◌<◌, false, List, [], ◌∷◌, length, get_or, map, Some, slice_get, refl, sym, ap, ◌∙◌, subst, arith}
use Rattle.std.specs.Prelude.{Contains}
use Rattle.std.specs.Cmp.{IsStrictWeakOrder}
use Rattle.std.specs.List.{AllZip, IsDistinct}
use Rattle.std.specs.List.Sorted.{IsPermutation, IsSortedBy, IsStrictlySortedBy}
use Rattle.std.specs.Ordering.{is_lt, ordering_reverse}
use Rattle.std.specs.Str.{bytes_eq}
use Rattle.std.specs.declared.cmp.Ordering.{Ordering}
use Rattle.std.specs.declared.cmp.Ordering.TheVariants.{Less, Equal, Greater}
use Rattle.std.proofs.lemmas.Bool.{true≢false}
use Rattle.std.proofs.lemmas.Cmp.{nat_list_cmp_total}
use Rattle.std.proofs.lemmas.List.Elements.{Contains-get_or}
use Rattle.std.proofs.lemmas.List.Sorted.{Contains-permutation, IsPermutation-map, IsPermutation-sym, ranks_by}
use Rattle.std.proofs.lemmas.Map.Keys.{IsDistinct-IsPermutation, apart_from_distinct, sorted_from_all_adjacent}
use Rattle.std.proofs.lemmas.Option.{get_or_from_slice_get, slice_get-get_or, slice_get_within}
use Rattle.std.proofs.lemmas.Slice.Eq.{bytes_eq-Decides}
use Rattle.go_block_core.specs.decl_core.declared.keys.DeclRef.{DeclRef}
use Rattle.go_block_core.specs.graph_core.Sources.{SourceModel}
use Rattle.go_block_core.specs.graph_core.Workspaces.{by_bytes}
use Rattle.go_block_core.specs.graph_core.Places.{equal_texts}
use Rattle.go_block_core.specs.graph_core.Zips.{zip_at, zip_back}
use Rattle.go_doc_core.specs.declared.symbol.symbols.Symbol.{Symbol}
use Rattle.go_doc_core.specs.symbol.Symbols.{AreSymbols, IsSymbolOf, SymbolOf, symbol_shown}
use Rattle.go_doc_core.proofs.SymbolDistinct.{AreApart, bytes_eq_flips}

pub name_weak : IsStrictWeakOrder (λ (x y : Symbol). is_lt (by_bytes x.name.now y.name.now))
name_weak = ranks_by nat_list_cmp_total (λ (s : Symbol). s.name.now)

abbrev names : List SymbolOf → List (List ℕ)
names ss = map (λ (s : SymbolOf). s.name) ss

-- the names are those that were listed
named : (files : List SourceModel) (ns : List (List ℕ × DeclRef)) (ss : List SymbolOf) → AllZip (IsSymbolOf files) ns ss → names ss ≡ map (λ e. e.0) ns
named files [] [] h = refl
named files [] (s ∷ ss) h = absurd h
named files (n ∷ ns) [] h = absurd h
named files (n ∷ ns) (s ∷ ss) h = ap (λ x. x ∷ names ss) h.0.name ∙ ap (λ l. n.0 ∷ l) (named files ns ss h.1)

-- what differs and does not fall rises
rises : (x y : List ℕ) → bytes_eq x y ≡ false → is_lt (by_bytes y x) ≡ false → by_bytes x y ≡ Less
rises x y apart up = by (by_bytes x y) refl
  where
    by : (o : Ordering) → by_bytes x y ≡ o → by_bytes x y ≡ Less
    by Less e = e
    by Equal e = absurd (true≢false (sym ((bytes_eq-Decides x y).1 (equal_texts x y e)) ∙ apart))
    by Greater e = absurd (true≢false (sym (ap is_lt (nat_list_cmp_total.antisymm y x ∙ ap ordering_reverse e)) ∙ up))

some_at : {A : Type 0} (xs : List A) (i : ℕ) → i < length xs → A
some_at [] i lt = absurd (omega (arith, lt))
some_at (x ∷ xs) i lt = x

shown_at : (xs : List Symbol) (i : ℕ) (d : Symbol) → i < length xs → get_or (names (map symbol_shown xs)) i [] ≡ (get_or xs i d).name.now
shown_at [] i d lt = absurd (omega (arith, lt))
shown_at (x ∷ xs) zero d lt = refl
shown_at (x ∷ xs) (suc i) d lt = shown_at xs i d (omega (arith, lt))

shown_length : (xs : List Symbol) → length (names (map symbol_shown xs)) ≡ length xs
shown_length [] = refl
shown_length (x ∷ xs) = ap suc (shown_length xs)

in_order : (xs : List Symbol) → IsSortedBy (λ (x y : Symbol). is_lt (by_bytes x.name.now y.name.now)) xs → IsDistinct bytes_eq (names (map symbol_shown xs)) → IsStrictlySortedBy by_bytes (names (map symbol_shown xs))
in_order xs sorted apart =
    sorted_from_all_adjacent nat_list_cmp_total (names (map symbol_shown xs)) []
    (λ k lt. (
    let high : k + 1 < length xs = omega (arith, lt, shown_length xs) in
    let low : k < length xs = omega (arith, high) in
    let d : Symbol = some_at xs k low in
    let differ : bytes_eq (get_or (names (map symbol_shown xs)) k []) (get_or (names (map symbol_shown xs)) (k + 1) []) ≡ false = apart_from_distinct bytes_eq (names (map symbol_shown xs)) k (k + 1) [] apart (omega arith) lt in
    let up : is_lt (by_bytes (get_or xs (k + 1) d).name.now (get_or xs k d).name.now) ≡ false = sorted k d (omega arith) high in
    let a : get_or (names (map symbol_shown xs)) k [] ≡ (get_or xs k d).name.now = shown_at xs k d low in
    let b : get_or (names (map symbol_shown xs)) (k + 1) [] ≡ (get_or xs (k + 1) d).name.now = shown_at xs (k + 1) d high in
    rises (get_or (names (map symbol_shown xs)) k []) (get_or (names (map symbol_shown xs)) (k + 1) []) differ
    (subst (λ (t : List ℕ). is_lt (by_bytes t (get_or (names (map symbol_shown xs)) k [])) ≡ false) (sym b) (subst (λ (t : List ℕ). is_lt (by_bytes (get_or xs (k + 1) d).name.now t) ≡ false) (sym a) up))
    ))

pub symbols_are : (files : List SourceModel) (ns : List (List ℕ × DeclRef)) (old new : List Symbol) → AreApart ns → AllZip (IsSymbolOf files) ns (map symbol_shown old) → IsPermutation old new
    → IsSortedBy (λ (x y : Symbol). is_lt (by_bytes x.name.now y.name.now)) new → AreSymbols files ns (map symbol_shown new)
symbols_are files ns old new apart zipped moved sorted =
    let moves : IsPermutation (map symbol_shown old) (map symbol_shown new) = IsPermutation-map symbol_shown old new moved in
    let first : IsDistinct bytes_eq (names (map symbol_shown old)) = subst (λ (l : List (List ℕ)). IsDistinct bytes_eq l) (sym (named files ns (map symbol_shown old) zipped)) apart in
    let distinct : IsDistinct bytes_eq (names (map symbol_shown new)) = IsDistinct-IsPermutation bytes_eq bytes_eq_flips (names (map symbol_shown old)) (names (map symbol_shown new)) (IsPermutation-map (λ (s : SymbolOf). s.name) (map symbol_shown old) (map symbol_shown new) moves) first in
    record {
      order = in_order new sorted distinct;
      each = λ k d lt.
          let found = zip_at (IsSymbolOf files) ns (map symbol_shown old) k (get_or ns k d) zipped (slice_get-get_or ns k d lt) in
          (found.0, Contains-permutation (map symbol_shown old) (map symbol_shown new) found.0 moves (there (map symbol_shown old) k found.0 found.1), found.2);
      only = λ k d lt.
          let s : SymbolOf = get_or (map symbol_shown new) k d in
          let before : Contains (map symbol_shown old) s = Contains-permutation (map symbol_shown new) (map symbol_shown old) s (IsPermutation-sym (map symbol_shown old) (map symbol_shown new) moves) (Contains-get_or (map symbol_shown new) k d lt) in
          let at : slice_get (map symbol_shown old) before.0 ≡ Some s = slice_get-get_or (map symbol_shown old) before.0 s before.1 ∙ ap Some before.2 in
          let found = zip_back (IsSymbolOf files) ns (map symbol_shown old) before.0 s zipped at in
          (found.0, there ns before.0 found.0 found.1, found.2);
    }
  where
    there : {A : Type 0} (xs : List A) (k : ℕ) (x : A) → slice_get xs k ≡ Some x → Contains xs x
    there xs k x at = (k, slice_get_within xs k x at, get_or_from_slice_get xs k x x at)
