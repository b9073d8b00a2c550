-- Implementation is decided.
use Rattle.std.proofs.Common.{◌↔◌, ℕ, Bool, true, false, ◌||◌, List, [], Result, Ok, Err, IsTrue, refl, sym, subst, inl, inr}
use Rattle.std.specs.Prelude.{codes}
use Rattle.go_denote_core.specs.text_core.declared.rule.Rule.{Rule}
use Rattle.go_term_core.specs.declared.term.MemberPlace.{MemberPlace}
use Rattle.go_term_core.specs.Terms.{Term, NoType, Predeclared, ErrorType, Defined, PointerTo, StructOf, InterfaceOf, Methods, NoMethod, AMethod, Sign}
use Rattle.go_term_core.specs.Identity.{IsMethod}
use Rattle.go_table_core.specs.Entries.{Entry, EntryLook, find_entry, underlying_in}
use Rattle.go_mset_core.specs.embed_core.Owners.{Found, AFieldOf, AMethodOf, AnInterfaces, TheErrorMethod}
use Rattle.go_mset_core.specs.select_core.LevelsSelectors.{Searched, Refused, In, FieldsIn, searched, IsFoundAs}
use Rattle.go_mset_core.specs.MethodSets.{IsCallable, IsMethodFound}
use Rattle.go_mset_core.specs.Implementing.{IsSigned, HasMethod, HasMethodsOf, error_sign}
use Rattle.go_mset_core.proofs.Answering.{error_has}
use Rattle.go_mset_core.proofs.Sets.{field_not_callable}
use Rattle.go_handle_core.specs.deciding.Selecting.{Choice, selected_of}
use Rattle.go_handle_core.specs.deciding.Implementing.{is_method_callable, is_signed, is_method_chosen, has_method_of, has_methods, has_methods_under}
use Rattle.go_handle_core.specs.deciding.Laws.{ImplementationIsDecided}
use Rattle.go_handle_core.proofs.DecidingTests.{both_decide, never}
use Rattle.go_handle_core.proofs.DecidingAlike.{decides_signs}
use Rattle.go_handle_core.proofs.DecidingChoosing.{IsOutcome, outcome, denoted_decided}

decides_callable : (f : Found) (passes : Bool) → IsTrue (is_method_callable f passes) ↔ IsCallable f passes
decides_callable (AFieldOf path place t) passes = never (λ h. h)
decides_callable (AMethodOf path place true g) passes = (λ h e. h, λ h. h refl)
decides_callable (AMethodOf path place false g) passes = (λ h e. cc, λ h. refl)
decides_callable (AnInterfaces path place g) passes = (λ h. tt, λ h. refl)
decides_callable TheErrorMethod passes = (λ h. tt, λ h. refl)

decides_signed : (f : Found) (g : Sign) → IsTrue (is_signed f g) ↔ IsSigned f g
decides_signed (AFieldOf path place t) g = never (λ h. h)
decides_signed (AMethodOf path place pointer h) g = decides_signs true h g
decides_signed (AnInterfaces path place h) g = decides_signs true h g
decides_signed TheErrorMethod g = decides_signs true error_sign g

to_method : (look : EntryLook) (w : Searched) (name from path : List ℕ) (passes : Bool) (f : Found) → IsFoundAs look w name from path passes f → IsCallable f passes → IsMethodFound look w name from path f
to_method look (Refused why) name from path passes f x c = x
to_method look (In t by_pointer) name from path passes f x c = (x.0, x.1, subst (λ b. IsCallable f b) x.2 c)
to_method look (FieldsIn t) name from path passes f x c = field_not_callable f passes x.1 c

of_method : (look : EntryLook) (w : Searched) (name from path : List ℕ) (f : Found) → IsMethodFound look w name from path f → (passes : Bool) × IsFoundAs look w name from path passes f × IsCallable f passes
of_method look (Refused why) name from path f x = absurd x
of_method look (In t by_pointer) name from path f x = (by_pointer || x.0, (x.0, x.1, refl), x.2)
of_method look (FieldsIn t) name from path f x = absurd x

chosen_has : (look : EntryLook) (t : Term) (name from : List ℕ) (g : Sign) (r : Result Choice Rule) → IsOutcome look t name from r → IsTrue (is_method_chosen r g) → HasMethod look t name from g
chosen_has look t name from g (Ok c) d h =
    let both = (both_decide (is_method_callable c.member c.passes) (is_signed c.member g) (decides_callable c.member c.passes) (decides_signed c.member g)).0 h in
    (c.path, c.member, (d.0, to_method look (searched look t) name from c.path c.passes c.member d.1 both.0), both.1)
chosen_has look t name from g (Err rule) d h = cc

has_chosen : (es : List Entry) (t : Term) (name from : List ℕ) (g : Sign) → HasMethod (find_entry es) t name from g → IsTrue (has_method_of es t name from g)
has_chosen es t name from g h =
    let m = of_method (find_entry es) (searched (find_entry es) t) name from h.0 h.1 h.2.1 in
    let is = (denoted_decided es t name from h.0 m.0 h.1).1 (h.2.0, m.1) in
    let both = (both_decide (is_method_callable h.1 m.0) (is_signed h.1 g) (decides_callable h.1 m.0) (decides_signed h.1 g)).1 (m.2, h.3) in
    subst (λ r. IsTrue (is_method_chosen r g)) (sym is) both

pub decides_method : (es : List Entry) (t : Term) (name from : List ℕ) (g : Sign) → IsTrue (has_method_of es t name from g) ↔ HasMethod (find_entry es) t name from g
decides_method es t name from g = (λ h. chosen_has (find_entry es) t name from g (selected_of es t name from) (outcome es t name from) h, λ h. has_chosen es t name from g h)

-- all methods of a package
abbrev HasEach : EntryLook → Term → List ℕ → Methods → Type 0
HasEach look t path ms = (name : List ℕ) (place : MemberPlace) (g : Sign) → IsMethod ms name place g → HasMethod look t name path g

decides_methods : (es : List Entry) (t : Term) (path : List ℕ) (ms : Methods) → IsTrue (has_methods es t path ms) ↔ HasEach (find_entry es) t path ms
decides_methods es t path NoMethod = (λ h name place g m. absurd m, λ h. refl)
decides_methods es t path (AMethod name place g ms) =
    let both = both_decide (has_method_of es t name path g) (has_methods es t path ms) (decides_method es t name path g) (decides_methods es t path ms) in (
      λ h n p k m. elim m [
        | inl e ↦ subst (λ s. HasMethod (find_entry es) t n path s) e.2 (subst (λ x. HasMethod (find_entry es) t x path g) e.0 (both.0 h).0)
        | inr r ↦ (both.0 h).1 n p k r
      ],
      λ h. both.1 (h name place g (inl (refl, refl, refl)), λ n p k m. h n p k (inr m)),
    )

decides_under : (es : List Entry) (t u : Term) → IsTrue (has_methods_under es t u) ↔ HasMethodsOf (find_entry es) t u
decides_under es t NoType = (λ h name from g m. absurd m, λ h. refl)
decides_under es t (Predeclared b) = (λ h name from g m. absurd m, λ h. refl)
decides_under es t ErrorType =
    let one = decides_method es t (codes "Error") [] error_sign in
    (λ h. error_has (find_entry es) t [] (one.0 h), λ h. one.1 (h (codes "Error") [] error_sign (refl, refl, refl)))
decides_under es t (Defined k) = (λ h name from g m. absurd m, λ h. refl)
decides_under es t (PointerTo u) = (λ h name from g m. absurd m, λ h. refl)
decides_under es t (StructOf path fs) = (λ h name from g m. absurd m, λ h. refl)
decides_under es t (InterfaceOf path ms) =
    let all = decides_methods es t path ms in (
      λ h name from g m. subst (λ p. HasMethod (find_entry es) t name p g) (sym m.0) (all.0 h name m.1.0 g m.1.1),
      λ h. all.1 (λ name place g m. h name path g (refl, (place, m))),
    )

pub implementation_decided : ImplementationIsDecided
implementation_decided = record { has_method = decides_method; implements = λ es t i. decides_under es t (underlying_in (find_entry es) i) }
