-- Parts that are shared, and which packages keep theirs.
use Rattle.std.proofs.Common.{◌≡◌, ◌≢◌, ◌<◌, ◌≤◌, ℕ, zero, suc, ◌+◌, ◌⊎◌, inl, inr, Bool, true, false, List, [], ◌∷◌, length, map, Option, Some, None, refl, sym, ap, ◌∙◌, arith}
use Rattle.std.specs.Prelude.{◌↔◌, IsTrue, is_some, option_map, replicate, slice_get, slice_set}
use Rattle.std.proofs.lemmas.Bool.{cases_eq}
use Rattle.std.proofs.lemmas.List.{get_or-replicate, length-map, length-replicate, length-set}
use Rattle.std.proofs.lemmas.Option.{slice_get-get_or, slice_get-map}
use Rattle.go_emit_core.specs.package_core.PackagePartParts.{PartModel}
use Rattle.go_snap_core.specs.make.Keeping.{AreKept, WasThere}
use Rattle.go_snap_core.proofs.MakeKeeping.{one_kept}
use Rattle.go_snap_core.proofs.MakeMarking.{set_at}
use Rattle.go_edit_core.specs.mirrors.Sharing.{AreSharedTo}

-- lists by their places

pub same_places : {A : Type 0} (xs ys : List A) → length xs ≡ length ys → ((m : ℕ) → m < length xs → slice_get xs m ≡ slice_get ys m) → xs ≡ ys
same_places [] [] e h = refl
same_places [] (y ∷ ys) e h = absurd (omega (arith, e))
same_places (x ∷ xs) [] e h = absurd (omega (arith, e))
same_places (x ∷ xs) (y ∷ ys) e h =
    let first : x ≡ y = (let both : Some x ≡ Some y = h 0 (omega arith) in cc) in
    ap (λ z. z ∷ xs) first ∙ ap (λ l. y ∷ l) (same_places xs ys (omega (arith, e)) (λ m lt. h (suc m) (omega (arith, lt))))

set_other : {A : Type 0} (xs : List A) (n i : ℕ) (y : A) → i ≢ n → slice_get (slice_set xs n y) i ≡ slice_get xs i
set_other [] n i y ne = refl
set_other (z ∷ xs) zero zero y ne = absurd (ne refl)
set_other (z ∷ xs) zero (suc i) y ne = refl
set_other (z ∷ xs) (suc n) zero y ne = refl
set_other (z ∷ xs) (suc n) (suc i) y ne = set_other xs n i y (λ e. ne (ap suc e))

pub none_shared : {A : Type 0} (parts shared : List (Option A)) → shared ≡ replicate (length parts) None → AreSharedTo parts shared 0
none_shared {A} parts shared is = record {
  many = ap length is ∙ length-replicate {A = Option A} (length parts) None;
  within = omega arith;
  before = λ m lt. absurd (omega (arith, lt));
  behind = λ m le lt.
      let here : m < length (replicate (length parts) None) = omega (arith, lt, length-replicate {A = Option A} (length parts) None) in
      ap (λ l. slice_get l m) is ∙ (slice_get-get_or (replicate (length parts) None) m None here ∙ ap Some (get_or-replicate (length parts) m None None lt));
}

pub one_shared : {A : Type 0} (parts shared : List (Option A)) (k : ℕ) (part : A) → k < length parts → slice_get parts k ≡ Some (Some part) → AreSharedTo parts shared k → AreSharedTo parts (slice_set shared k (Some part)) (k + 1)
one_shared {A} parts shared k part lt at h = record {
  many = length-set shared k (Some part) ∙ h.many;
  within = omega (arith, lt);
  before = λ m less. below m less (cases_eq m k);
  behind = λ m le bound. (let ne : m ≢ k = (λ e. omega (arith, e, le)) in set_other shared k m (Some part) ne ∙ h.behind m (omega (arith, le)) bound);
}
  where
    below : (m : ℕ) → m < k + 1 → (m ≡ k) ⊎ (m ≢ k) → slice_get (slice_set shared k (Some part)) m ≡ slice_get parts m
    below m less (inl e) = ap (slice_get (slice_set shared k (Some part))) e ∙ (set_at shared k (Some part) (omega (arith, lt, h.many)) ∙ (sym at ∙ ap (slice_get parts) (sym e)))
    below m less (inr ne) = set_other shared k m (Some part) ne ∙ h.before m (omega (arith, less, ne))

pub none_more : {A : Type 0} (parts shared : List (Option A)) (k : ℕ) → k < length parts → slice_get parts k ≡ Some None → AreSharedTo parts shared k → AreSharedTo parts shared (k + 1)
none_more {A} parts shared k lt at h = record {
  many = h.many;
  within = omega (arith, lt);
  before = λ m less. below m less (cases_eq m k);
  behind = λ m le bound. h.behind m (omega (arith, le)) bound;
}
  where
    below : (m : ℕ) → m < k + 1 → (m ≡ k) ⊎ (m ≢ k) → slice_get shared m ≡ slice_get parts m
    below m less (inl e) = ap (slice_get shared) e ∙ (h.behind k (omega arith) lt ∙ (sym at ∙ ap (slice_get parts) (sym e)))
    below m less (inr ne) = h.before m (omega (arith, less, ne))

pub all_shared : {A : Type 0} (parts shared : List (Option A)) (k : ℕ) → length parts ≤ k → AreSharedTo parts shared k → shared ≡ parts
all_shared parts shared k end h = same_places shared parts h.many (λ m lt. h.before m (omega (arith, lt, end, h.many)))

-- all that were there are kept

module _ (was : List (Option PartModel)) where
  abbrev HasKept : ℕ → Type 0
  HasKept n = (part : PartModel) × (slice_get was n ≡ Some (Some part)) × WasThere was part

  kept_at : (n : ℕ) (is : Bool) (o : Option (Option PartModel)) → slice_get was n ≡ o → option_map is_some o ≡ Some is → IsTrue is ↔ HasKept n
  kept_at n is None at e = absurd (let no : None ≡ Some is = e in cc)
  kept_at n is (Some None) at e =
      let same : false ≡ is = (let both : Some false ≡ Some is = e in cc) in (
        (λ yes. absurd (let no : false ≡ true = same ∙ yes in cc)),
        (λ has. absurd (let no : Some None ≡ Some (Some has.0) = sym at ∙ has.1 in let inner : None ≡ Some has.0 = cc in cc)),
      )
  kept_at n is (Some (Some part)) at e =
      let same : true ≡ is = (let both : Some true ≡ Some is = e in cc) in
      ((λ yes. (part, at, (n, at))), (λ has. sym same))

  pub all_kept : AreKept was was (map is_some was)
  all_kept = record {
    many = length-map was is_some;
    each = λ n is at. kept_at n is (slice_get was n) refl (sym (slice_get-map is_some was n) ∙ at);
  }

  -- all but one that is made anew
  pub all_but_one : (n : ℕ) (new : PartModel) → n < length was → (WasThere was new → ⊥) → AreKept was (slice_set was n (Some new)) (slice_set (map is_some was) n false)
  all_but_one n new lt none =
      one_kept was was (map is_some was) all_kept n new lt false ((λ yes. absurd (let no : false ≡ true = yes in cc)), (λ there. absurd (none there))) (slice_set (map is_some was) n false) refl
