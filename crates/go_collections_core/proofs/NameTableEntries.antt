-- The entries of a table of names, and the map beside them.
use Rattle.std.proofs.Common.{◌≡◌, ℕ, zero, suc, ◌<◌, List, [], ◌∷◌, ◌++◌, length, take, Option, Some, None, refl, sym, ap, ◌∙◌, subst, arith}
use Rattle.std.specs.Prelude.{slice_get, option_copied, string_bytes}
use Rattle.std.specs.Borrow.{Bor}
use Rattle.std.specs.BTreeMap.{BTreeMap}
use Rattle.std.specs.Slice.{IsItemAt}
use Rattle.std.specs.declared.string.String.{String}
use Rattle.std.proofs.lemmas.List.{map-append, take-map, length-map}
use Rattle.std.proofs.lemmas.Option.{slice_get_past, slice_get_read}
use Rattle.go_collections_core.specs.name_table.Named.{entries_named, AreOnce}
use Rattle.go_collections_core.specs.name_table.Placed.{ArePlaced}
use Rattle.go_collections_core.proofs.NameTableOnce.{once_first}
use Rattle.go_collections_core.proofs.NameTablePlacing.{placed_first}

-- what a look-up by place answers
pub item_copied : {X : Type 0} (xs : List X) (i : ℕ) (r : Option (Bor X)) → IsItemAt xs i r → option_copied r ≡ slice_get xs i
item_copied xs i None h = sym (slice_get_past xs i h.3)
item_copied xs i (Some x) h = sym (slice_get_read xs (length xs) i x.now refl h.3.0 (h.3.1 x.now))

module _ {Y V : Type 0} where
  pub named_push : (es : List (String Y × V)) (key : String Y) (name : List ℕ) (v : V) → string_bytes key ≡ name → entries_named (es ++ (key, v) ∷ []) ≡ entries_named es ++ (name, v) ∷ []
  named_push es key name v is = map-append (λ (e : String Y × V). (string_bytes e.0, e.1)) es ((key, v) ∷ []) ∙ ap (λ (n : List ℕ). entries_named es ++ (n, v) ∷ []) is

  pub named_take : (es : List (String Y × V)) (k : ℕ) → entries_named (take k es) ≡ take k (entries_named es)
  named_take es k = sym (take-map (λ (e : String Y × V). (string_bytes e.0, e.1)) k es)

  pub named_size : (es : List (String Y × V)) → length (entries_named es) ≡ length es
  named_size es = length-map es (λ (e : String Y × V). (string_bytes e.0, e.1))

  first_count : (es : List (String Y × V)) (k : ℕ) → k < length es → k ≡ length (take k es)
  first_count [] k lt = absurd (omega (arith, lt))
  first_count (e ∷ es) zero lt = refl
  first_count (e ∷ es) (suc k) lt = ap suc (first_count es k (omega (arith, lt)))

  pub named_count : (es : List (String Y × V)) (k : ℕ) → k < length es → k ≡ length (entries_named (take k es))
  named_count es k lt = first_count es k lt ∙ sym (named_size (take k es))

  named_there : (es : List (String Y × V)) (p : ℕ) (e : String Y × V) → Some e ≡ slice_get es p → slice_get (entries_named es) p ≡ Some (string_bytes e.0, e.1)
  named_there [] p e h = absurd (let no : Some e ≡ None = h in cc)
  named_there (x ∷ es) zero e h = let same : e ≡ x = (let s : Some e ≡ Some x = h in cc) in ap (λ (y : String Y × V). Some (string_bytes y.0, y.1)) (sym same)
  named_there (x ∷ es) (suc p) e h = named_there es p e h

  named_past : (es : List (String Y × V)) (p : ℕ) → None ≡ slice_get es p → slice_get (entries_named es) p ≡ None
  named_past [] p h = refl
  named_past (x ∷ es) zero h = absurd (let no : None ≡ Some x = h in cc)
  named_past (x ∷ es) (suc p) h = named_past es p h

-- the names of a table have their places, and none stands twice
abbrev pub IsTable : {Y Z V : Type 0} → List ℕ → BTreeMap (String Z) ℕ → List (String Y × V) → Type 0
IsTable slots more es = ArePlaced slots more (entries_named es) × AreOnce (entries_named es)

module _ {Y Z V : Type 0} where
  pub table_first : (slots : List ℕ) (more : BTreeMap (String Z) ℕ) (es now : List (String Y × V)) (k : ℕ) → now ≡ take k es → IsTable slots more es → IsTable slots more now
  table_first slots more es now k cut table =
      let cut' : entries_named now ≡ take k (entries_named es) = ap entries_named cut ∙ named_take es k in
      (placed_first slots more (entries_named es) (entries_named now) k cut' table.0, once_first (entries_named es) (entries_named now) k cut' table.1)

  pub table_same : (slots : List ℕ) (more : BTreeMap (String Z) ℕ) (es now : List (String Y × V)) → now ≡ es → IsTable slots more es → IsTable slots more now
  table_same slots more es now same table = let P : List (String Y × V) → Type 0 = IsTable slots more in subst P (sym same) table
