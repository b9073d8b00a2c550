-- Convertibility is decided.
use Rattle.std.proofs.Common.{◌≡◌, ◌↔◌, false, IsTrue, ◌⊎◌, inl, inr, refl, subst}
use Rattle.go_term_core.specs.Terms.{Term, NoType, Predeclared, ErrorType, Defined, PointerTo, StructOf, InterfaceOf, is_no_type}
use Rattle.go_table_core.specs.Entries.{EntryLook, underlying_in}
use Rattle.go_table_core.specs.Assign.{IsType}
use Rattle.go_handle_core.specs.deciding.Identity.{identical_under_of}
use Rattle.go_handle_core.specs.deciding.Conversion.{AreAlike, IsTermConvertible, alike, pointers, is_type_term, are_alike, pointers_alike, convertible_of}
use Rattle.go_handle_core.specs.deciding.Laws.{ConvertibilityIsDecided}
use Rattle.go_handle_core.proofs.DecidingTests.{both_decide, some_decide, never, decides_not}
use Rattle.go_handle_core.proofs.DecidingAlike.{decides_under}

decides_nothing : (t : Term) → IsTrue (is_no_type t) ↔ (t ≡ NoType)
decides_nothing NoType = (λ h. refl, λ h. refl)
decides_nothing (Predeclared b) = never (λ h. cc)
decides_nothing ErrorType = never (λ h. cc)
decides_nothing (Defined k) = never (λ h. cc)
decides_nothing (PointerTo t) = never (λ h. cc)
decides_nothing (StructOf path fs) = never (λ h. cc)
decides_nothing (InterfaceOf path ms) = never (λ h. cc)

pub decides_type : (look : EntryLook) (t : Term) → IsTrue (is_type_term look t) ↔ IsType look t
decides_type look t = decides_not (is_no_type (underlying_in look t)) (decides_nothing (underlying_in look t))

decides_alike : (look : EntryLook) (s t : Term) → IsTrue (are_alike look s t) ↔ AreAlike look s t
decides_alike look s t =
    let both = both_decide (is_type_term look s) (identical_under_of false (underlying_in look s) (underlying_in look t)) (decides_type look s) (decides_under false (underlying_in look s) (underlying_in look t)) in
    (λ h. let x = both.0 h in record { is_type = x.0; identical = x.1 }, λ h. both.1 (h.is_type, h.identical))

-- two pointer types, with base types that are alike
abbrev BasesAlike : EntryLook → Term → Term → Type 0
BasesAlike look s t = (a : Term) × (b : Term) × (s ≡ PointerTo a) × (t ≡ PointerTo b) × AreAlike look a b

decides_pointers : (look : EntryLook) (s t : Term) → IsTrue (pointers_alike look s t) ↔ BasesAlike look s t
decides_pointers look (PointerTo a) (PointerTo b) = (
  λ h. (a, b, refl, refl, (decides_alike look a b).0 h),
  λ h.
      let x : h.0 ≡ a = (let e = h.2 in (cc)) in
      let y : h.1 ≡ b = (let e = h.3 in (cc)) in
      (decides_alike look a b).1 (subst (λ z. AreAlike look a z) y (subst (λ z. AreAlike look z h.1) x h.4)),
)
decides_pointers look (PointerTo a) _ = never (λ h. let e = h.3 in (cc))
decides_pointers look _ t = never (λ h. let e = h.2 in (cc))

pub convertibility_decided : ConvertibilityIsDecided
convertibility_decided look s t = (λ h. to (both.0 h), λ h. both.1 (from h))
  where
    both : IsTrue (convertible_of look s t) ↔ (AreAlike look s t ⊎ BasesAlike look s t)
    both = some_decide (are_alike look s t) (pointers_alike look s t) (decides_alike look s t) (decides_pointers look s t)

    to : AreAlike look s t ⊎ BasesAlike look s t → IsTermConvertible look s t
    to (inl h) = alike h
    to (inr h) = pointers h.0 h.1 h.2 h.3 h.4

    from : IsTermConvertible look s t → AreAlike look s t ⊎ BasesAlike look s t
    from (alike h) = inl h
    from (pointers a b x y h) = inr (a, b, x, y, h)
