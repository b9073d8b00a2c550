-- Types that are identical, or of which one takes values of the other, are over the same.
use Rattle.std.proofs.Common.{◌≡◌, Bool, true, false, ◌&&◌, List, Option, Some, refl, sym, ap, ◌∙◌, subst}
use Rattle.go_term_core.specs.Terms.{Term, NoType, Predeclared, ErrorType, Defined, PointerTo, StructOf, InterfaceOf}
use Rattle.go_term_core.specs.declared.term.Basic.{Basic}
use Rattle.go_report_core.specs.operand_core.Values.{is_basic, form_basic}
use Rattle.go_body_core.specs.table_core.Entries.{Entry, EntryLook, find_entry, underlying_in}
use Rattle.go_body_core.specs.table_core.Keys.{same_key_true}
use Rattle.go_body_core.specs.table_core.Assign.{AValue}
use Rattle.go_meaning_laws.specs.handle_core.DecidingAssigning.{assigned_type, assignable_of, is_fitting, is_interface, value_fits}
use Rattle.go_meaning_laws.specs.handle_core.DecidingConversion.{are_alike, convertible_of, is_type_term, pointers_alike}
use Rattle.go_meaning_laws.specs.handle_core.DecidingIdentity.{identical_of, identical_under_of}
use Rattle.go_meaning_laws.specs.handle_core.DecidingImplementing.{implements_of}
use Rattle.go_meaning_laws.specs.handle_core.DecidingRules.{form_of, form_under}
use Rattle.go_workspace_laws.proofs.FoldingWords.{basic_same}
use Rattle.go_program_laws.specs.checked_sources.Types.{TypesKeepBasics}
use Rattle.go_program_laws.proofs.CheckedSourcesWords.{some_same, and_both, or_cases}

kinds_same : (b c : Basic) → is_basic b c ≡ true → b ≡ c
kinds_same b c h = sym (some_same c b (basic_same b c h))

-- what a type is over lies under it
under_is : (u : Term) (b : Basic) → form_basic (form_under u) ≡ Some b → u ≡ Predeclared b
under_is (Predeclared c) b e = ap Predeclared (some_same c b e)
under_is NoType b e = absurd (cc e)
under_is ErrorType b e = absurd (cc e)
under_is (Defined k) b e = absurd (cc e)
under_is (PointerTo t) b e = absurd (cc e)
under_is (StructOf path fs) b e = absurd (cc e)
under_is (InterfaceOf path ms) b e = absurd (cc e)

same_under : (tags : Bool) (u v : Term) (b c : Basic) → u ≡ Predeclared b → v ≡ Predeclared c → identical_under_of tags u v ≡ true → b ≡ c
same_under tags u v b c hu hv h = kinds_same b c (subst (λ x. identical_under_of tags (Predeclared b) x ≡ true) hv (subst (λ x. identical_under_of tags x v ≡ true) hu h))

module _ (look : EntryLook) where
  abbrev Over : Term → Option Basic
  Over t = form_basic (form_of look t)

  identical_over : (s t : Term) → identical_of s t ≡ true → Over s ≡ Over t
  identical_over NoType NoType h = refl
  identical_over (Predeclared b) (Predeclared c) h = ap Some (kinds_same b c h)
  identical_over ErrorType ErrorType h = refl
  identical_over (Defined k) (Defined j) h = ap (λ x. Over (Defined x)) (same_key_true k j h)
  identical_over (PointerTo t) (PointerTo u) h = refl
  identical_over (StructOf p fs) (StructOf q gs) h = refl
  identical_over (InterfaceOf p ms) (InterfaceOf q ns) h = refl
  identical_over NoType _ h = absurd (cc h)
  identical_over (Predeclared b) _ h = absurd (cc h)
  identical_over ErrorType _ h = absurd (cc h)
  identical_over (Defined k) _ h = absurd (cc h)
  identical_over (PointerTo t) _ h = absurd (cc h)
  identical_over (StructOf p fs) _ h = absurd (cc h)
  identical_over (InterfaceOf p ms) _ h = absurd (cc h)

  no_interface : (u : Term) (c : Basic) → u ≡ Predeclared c → is_interface u ≡ true → ⊥
  no_interface u c is h = (let lie = subst (λ x. is_interface x ≡ true) is h in cc lie)

  fits_over : (s t : Term) (b c : Basic) (implements : Bool) → Over s ≡ Some b → Over t ≡ Some c → value_fits look s t implements ≡ true → b ≡ c
  fits_over s t b c implements hs ht h =
      let us = under_is (underlying_in look s) b hs in
      let ut = under_is (underlying_in look t) c ht in
      or_cases (identical_of s t) _ h
      (λ same. some_same b c (sym hs ∙ (identical_over s t same ∙ ht)))
      (λ rest. or_cases _ (is_interface (underlying_in look t) && implements) rest
      (λ under. same_under true (underlying_in look s) (underlying_in look t) b c us ut (and_both (identical_under_of true (underlying_in look s) (underlying_in look t)) _ under).0)
      (λ met. absurd (no_interface (underlying_in look t) c ut (and_both (is_interface (underlying_in look t)) implements met).0)))

  alike_over : (s t : Term) (b c : Basic) → Over s ≡ Some b → Over t ≡ Some c → are_alike look s t ≡ true → b ≡ c
  alike_over s t b c hs ht h = same_under false (underlying_in look s) (underlying_in look t) b c (under_is (underlying_in look s) b hs) (under_is (underlying_in look t) c ht) (and_both (is_type_term look s) (identical_under_of false (underlying_in look s) (underlying_in look t)) h).1

  pointers_over : (s t : Term) (b : Basic) → Over s ≡ Some b → pointers_alike look s t ≡ true → ⊥
  pointers_over (PointerTo a) t b hs h = cc hs
  pointers_over NoType t b hs h = cc h
  pointers_over (Predeclared c) t b hs h = cc h
  pointers_over ErrorType t b hs h = cc h
  pointers_over (Defined k) t b hs h = cc h
  pointers_over (StructOf p fs) t b hs h = cc h
  pointers_over (InterfaceOf p ms) t b hs h = cc h

  converts_over : (s t : Term) (b c : Basic) → Over s ≡ Some b → Over t ≡ Some c → convertible_of look s t ≡ true → b ≡ c
  converts_over s t b c hs ht h = or_cases (are_alike look s t) (pointers_alike look s t) h (λ alike. alike_over s t b c hs ht alike) (λ pointers. absurd (pointers_over s t b hs pointers))

assigns_over : (es : List Entry) (s t : Term) (b c : Basic) → Over (find_entry es) s ≡ Some b → Over (find_entry es) t ≡ Some c → assignable_of es (AValue s) t ≡ true → b ≡ c
assigns_over es s t b c hs ht h =
    let look : EntryLook = find_entry es in
    let implements = implements_of es (assigned_type (AValue s)) t in
    let outer = and_both (is_type_term look t) (is_fitting look (AValue s) t implements) h in
    let inner = and_both (is_type_term look s) (value_fits look s t implements) outer.1 in
    fits_over look s t b c implements hs ht inner.1

pub types_keep_basics : TypesKeepBasics
types_keep_basics = record {
  keep = λ es path. record {
    assignable = λ s t b c h hs ht. assigns_over es s t b c hs ht h;
    convertible = λ s t b c h hs ht. converts_over (find_entry es) s t b c hs ht h;
  };
  identity = λ es path s t h. identical_over (find_entry es) s t h;
  predeclared = λ es path. record { int = refl; bool = refl };
}
