-- Which parts are kept, as far as they are made.
use Rattle.std.proofs.Common.{◌≡◌, ◌≢◌, ℕ, ◌<◌, ◌⊎◌, inl, inr, Bool, true, false, List, length, Option, Some, None, sym, ap, subst, ◌∙◌, arith}
use Rattle.std.specs.Prelude.{◌↔◌, IsTrue, slice_get, slice_set, replicate}
use Rattle.std.proofs.lemmas.Bool.{cases_eq}
use Rattle.std.proofs.lemmas.List.{length-set, length-replicate, get_or-replicate}
use Rattle.std.proofs.lemmas.Option.{slice_get_within, get_or_from_slice_get}
use Rattle.go_emit_core.specs.package_core.PackagePartParts.{PartModel}
use Rattle.go_snap_core.proofs.WholeWorkspaceLists.{one_at}
use Rattle.go_snap_core.specs.make.Keeping.{AreKept, WasThere}
use Rattle.go_snap_core.proofs.MakeMarking.{set_at, set_beside, was_beside}
use Rattle.go_snap_core.proofs.MakeTelling.{nothing_at}

module _ (before : List (Option PartModel)) where
  -- the package of a number has a part that was there
  abbrev HasKept : List (Option PartModel) → ℕ → Type 0
  HasKept parts n = (part : PartModel) × (slice_get parts n ≡ Some (Some part)) × WasThere before part

  -- where there are no parts, none is kept
  pub kept_none : (count : ℕ) (parts : List (Option PartModel)) (kept : List Bool) → parts ≡ replicate count None → kept ≡ replicate count false → AreKept before parts kept
  kept_none count parts kept is none = record {
    many = ap length none ∙ (length-replicate {A = Bool} count false ∙ sym (ap length is ∙ length-replicate {A = Option PartModel} count None));
    each = λ n mark at. (
      λ yes. (let no : mark ≡ false = unmarked n mark at in let both : true ≡ false = sym yes ∙ no in absurd cc),
      λ has. absurd (nothing_at count parts n has.0 is has.1),
    );
  }
    where
      unmarked : (n : ℕ) (mark : Bool) → slice_get kept n ≡ Some mark → mark ≡ false
      unmarked n mark at =
          let here : slice_get (replicate count false) n ≡ Some mark = sym (ap (λ (l : List Bool). slice_get l n) none) ∙ at in
          let lt : n < count = omega (arith, slice_get_within (replicate count false) n mark here, length-replicate {A = Bool} count false) in
          sym (get_or_from_slice_get (replicate count false) n mark mark here) ∙ get_or-replicate count n false mark lt

  -- one part more
  module _ (parts : List (Option PartModel)) (kept : List Bool) (are : AreKept before parts kept) (n : ℕ) (part : PartModel) (lt : n < length parts) (mark : Bool) (says : IsTrue mark ↔ WasThere before part) where
    below : n < length kept
    below = omega (arith, lt, are.many)

    abbrev with_it : List (Option PartModel)
    with_it = slice_set parts n (Some part)

    kept_put : (k : ℕ) (is : Bool) → slice_get (slice_set kept n mark) k ≡ Some is → (k ≡ n) ⊎ (k ≢ n) → IsTrue is ↔ HasKept with_it k
    kept_put k is at (inl e) =
        let same : mark ≡ is = one_at (slice_set kept n mark) n mark is (set_at kept n mark below) (subst (λ (m : ℕ). slice_get (slice_set kept n mark) m ≡ Some is) e at) in
        let here : slice_get with_it k ≡ Some (Some part) = ap (slice_get with_it) e ∙ set_at parts n (Some part) lt in (
          λ yes. (part, here, says.0 (same ∙ yes)),
          λ has. (let one : has.0 ≡ part = (let f : Some has.0 ≡ Some part = one_at with_it k (Some has.0) (Some part) has.1 here in cc) in sym same ∙ says.1 (subst (WasThere before) one has.2)),
        )
    kept_put k is at (inr ne) =
        let old = are.each k is (was_beside kept n mark below k is ne at) in (
          λ yes. (let has = old.0 yes in (has.0, set_beside parts n (Some part) lt k (Some has.0) ne has.1, has.2)),
          λ has. old.1 (has.0, was_beside parts n (Some part) lt k (Some has.0) ne has.1, has.2),
        )

    pub one_kept : (kept' : List Bool) → kept' ≡ slice_set kept n mark → AreKept before with_it kept'
    one_kept kept' set =
        subst (AreKept before with_it) (sym set)
        (record { many = length-set kept n mark ∙ (are.many ∙ sym (length-set parts n (Some part))); each = λ k is at. kept_put k is at (cases_eq k n) })
