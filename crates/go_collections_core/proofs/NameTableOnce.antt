-- Names that stand once in a list.
use Rattle.std.proofs.Common.{◌≡◌, ℕ, zero, suc, ◌<◌, Bool, true, false, List, [], ◌∷◌, ◌++◌, length, take, get_or, Some, None, refl, sym, ap, ◌∙◌, subst, arith, cond}
use Rattle.std.specs.Prelude.{string_bytes}
use Rattle.std.specs.Str.{bytes_eq}
use Rattle.std.specs.declared.string.String.{String}
use Rattle.std.proofs.lemmas.Cmp.{nat_list_eq_equiv}
use Rattle.std.proofs.lemmas.List.{length-map, take-map, get_or-map}
use Rattle.go_collections_core.specs.name_table.Named.{entries_named, value_at, AreOnce}

module _ {V : Type 0} where
  -- a name that is not there differs from the first, and is not behind it
  others : (q : List ℕ) (e : List ℕ × V) (ns : List (List ℕ × V)) → value_at (e ∷ ns) q ≡ None → (bytes_eq q e.0 ≡ false) × (value_at ns q ≡ None)
  others q e ns h = by (bytes_eq q e.0) refl h
    where
      by : (b : Bool) → bytes_eq q e.0 ≡ b → cond b (Some e.1) (value_at ns q) ≡ None → (bytes_eq q e.0 ≡ false) × (value_at ns q ≡ None)
      by true is at = absurd (let no : Some e.1 ≡ None = at in cc)
      by false is at = (is, at)

  absent_push : (ns : List (List ℕ × V)) (n : List ℕ × V) (q : List ℕ) → value_at ns q ≡ None → bytes_eq q n.0 ≡ false → value_at (ns ++ n ∷ []) q ≡ None
  absent_push [] n q h other = ap (λ b. cond b (Some n.1) None) other
  absent_push (e ∷ ns) n q h other =
      let o = others q e ns h in
      ap (λ b. cond b (Some e.1) (value_at (ns ++ n ∷ []) q)) o.0 ∙ absent_push ns n q o.1 other

  absent_first : (k : ℕ) (ns : List (List ℕ × V)) (q : List ℕ) → value_at ns q ≡ None → value_at (take k ns) q ≡ None
  absent_first zero ns q h = refl
  absent_first (suc k) [] q h = refl
  absent_first (suc k) (e ∷ ns) q h =
      let o = others q e ns h in
      ap (λ b. cond b (Some e.1) (value_at (take k ns) q)) o.0 ∙ absent_first k ns q o.1

  other_at : (ns : List (List ℕ × V)) (i : ℕ) (d : List ℕ × V) (q : List ℕ) → i < length ns → value_at ns q ≡ None → bytes_eq q (get_or ns i d).0 ≡ false
  other_at [] i d q lt h = absurd (omega (arith, lt))
  other_at (e ∷ ns) zero d q lt h = (others q e ns h).0
  other_at (e ∷ ns) (suc i) d q lt h = other_at ns i d q (omega (arith, lt)) (others q e ns h).1

  once_push : (ns : List (List ℕ × V)) (n : List ℕ × V) → AreOnce ns → value_at ns n.0 ≡ None → AreOnce (ns ++ n ∷ [])
  unfolding AreOnce
  once_push [] n once absent = (refl, tt)
  once_push (e ∷ ns) n once absent =
      let o = others n.0 e ns absent in
      (absent_push ns n e.0 once.0 (nat_list_eq_equiv.symm e.0 n.0 ∙ o.0), once_push ns n once.1 o.1)

  once_take : (k : ℕ) (ns : List (List ℕ × V)) → AreOnce ns → AreOnce (take k ns)
  unfolding AreOnce
  once_take zero ns once = tt
  once_take (suc k) [] once = tt
  once_take (suc k) (e ∷ ns) once = (absent_first k ns e.0 once.0, once_take k ns once.1)

  once_at : (ns : List (List ℕ × V)) (i : ℕ) (d : List ℕ × V) → i < length ns → AreOnce ns → value_at (take i ns) (get_or ns i d).0 ≡ None
  unfolding AreOnce
  once_at [] i d lt once = absurd (omega (arith, lt))
  once_at (e ∷ ns) zero d lt once = refl
  once_at (e ∷ ns) (suc i) d lt once =
      let lt' : i < length ns = omega (arith, lt) in
      ap (λ b. cond b (Some e.1) (value_at (take i ns) (get_or ns i d).0)) (nat_list_eq_equiv.symm (get_or ns i d).0 e.0 ∙ other_at ns i d e.0 lt' once.0) ∙ once_at ns i d lt' once.1

  pub none_once : (ns : List (List ℕ × V)) → ns ≡ [] → AreOnce ns
  unfolding AreOnce
  none_once ns empty = let P : List (List ℕ × V) → Type 0 = AreOnce in subst P (sym empty) tt

  pub once_more : (ns now : List (List ℕ × V)) (name : List ℕ) (v : V) → AreOnce ns → value_at ns name ≡ None → now ≡ ns ++ (name, v) ∷ [] → AreOnce now
  once_more ns now name v once absent more = let P : List (List ℕ × V) → Type 0 = AreOnce in subst P (sym more) (once_push ns (name, v) once absent)

  pub once_first : (ns now : List (List ℕ × V)) (k : ℕ) → now ≡ take k ns → AreOnce ns → AreOnce now
  once_first ns now k cut once = let P : List (List ℕ × V) → Type 0 = AreOnce in subst P (sym cut) (once_take k ns once)

-- an entry, by the text of its name
abbrev shown : {Y V : Type 0} → String Y × V → List ℕ × V
shown e = (string_bytes e.0, e.1)

-- the name of an entry is not among those before it
module _ {Y V : Type 0} (es : List (String Y × V)) (i : ℕ) (d : String Y × V) (lt : i < length es) where
  pub copied_absent : (done : List (List ℕ × V)) → done ≡ entries_named (take i es) → AreOnce (entries_named es) → value_at done (string_bytes (get_or es i d).0) ≡ None
  copied_absent done so_far once =
      let size : length (entries_named es) ≡ length es = length-map es shown in
      let inside : i < length (entries_named es) = omega (arith, lt, size) in
      let name : string_bytes (get_or es i d).0 ≡ (get_or (entries_named es) i (shown d)).0 = ap (λ (e : List ℕ × V). e.0) (sym (get_or-map shown es i d (shown d) lt)) in
      ap (λ l. value_at l (string_bytes (get_or es i d).0)) (so_far ∙ sym (take-map shown i es))
      ∙ (ap (value_at (take i (entries_named es))) name ∙ once_at (entries_named es) i (shown d) inside once)
