-- What is answered of methods and members, as the decisions have it.
use Rattle.std.proofs.Common.{◌≡◌, ◌↔◌, ℕ, zero, suc, Bool, true, false, ◌&&◌, List, [], ◌∷◌, length, IsTrue, Result, Ok, Err, inl, inr, refl, sym, ap, ◌∙◌, subst, ◌<◌, arith}
use borrow.Author.Tests.{eqb-true}
use Rattle.std.specs.Prelude.{nat_eq, codes, if◌then◌else◌}
use Rattle.go_denote_core.specs.text_core.Text.{is_blank}
use Rattle.go_denote_core.specs.text_core.declared.rule.Rule.{Rule}
use Rattle.go_denote_core.specs.text_core.declared.rule.Rule.TheVariants.{M0, S6, S8}
use Rattle.go_term_core.specs.declared.term.Method.{Method}
use Rattle.go_term_core.specs.Terms.{Term, NoType, Predeclared, ErrorType, Defined, PointerTo, StructOf, InterfaceOf, NoMethod, AMethod, Sign}
use Rattle.go_term_core.specs.Shapes.{method_shapes}
use Rattle.go_table_core.specs.Entries.{Entry, find_entry, underlying_in}
use Rattle.go_mset_core.specs.select_core.declared.levels.search.Selected.{Selected}
use Rattle.go_mset_core.specs.select_core.LevelsSelectors.{IsSelectorAnswer, Refused, searched}
use Rattle.go_mset_core.specs.declared.interface.Missing.{Missing}
use Rattle.go_mset_core.specs.Implementing.{error_sign, Implements, IsImplementing}
use Rattle.go_handle_core.specs.deciding.Selecting.{selected_of, chosen_of}
use Rattle.go_handle_core.specs.deciding.Implementing.{is_method_chosen, has_method_of, has_methods, has_methods_under, implements_of}
use Rattle.go_handle_core.proofs.DecidingChoosing.{selectors_decided}
use Rattle.go_handle_core.proofs.DecidingImplementing.{implementation_decided}
use Rattle.go_handle_core.specs.Stars.{starred}
use Rattle.go_handle_core.specs.mirrors.Bare.{is_none, asks_nothing}

-- a test that does not pass
fails : (b : Bool) (P : Type 0) → (IsTrue b ↔ P) → (P → ⊥) → false ≡ b
fails true P both never = absurd (never (both.0 refl))
fails false P both never = refl

-- what is answered to the question whether t implements i

pub told_yes : {A : Type 0} (es : List Entry) (t i : Term) (r : Result A Missing) (x : A) → r ≡ Ok x → IsImplementing (find_entry es) t i r → true ≡ implements_of es t i
told_yes es t i r x e h = sym ((implementation_decided.implements es t i).1 (subst (λ s. IsImplementing (find_entry es) t i s) e h))

pub told_no : {A : Type 0} (es : List Entry) (t i : Term) (r : Result A Missing) (m : Missing) → r ≡ Err m → IsImplementing (find_entry es) t i r → false ≡ implements_of es t i
told_no es t i r m e h =
    let missing = subst (λ s. IsImplementing (find_entry es) t i s) e h in
    fails (implements_of es t i) (Implements (find_entry es) t i) (implementation_decided.implements es t i) (λ has. missing.lacks (has m.name.now missing.from missing.sign missing.of_interface))

-- a pointer to a pointer has no methods

pub two_stars : (n : ℕ) (t : Term) → (n ≡ 0 → ⊥) → (n ≡ 1 → ⊥) → (u : Term) × (starred n t ≡ PointerTo (PointerTo u))
two_stars zero t some more = absurd (some refl)
two_stars (suc zero) t some more = absurd (more refl)
two_stars (suc (suc n)) t some more = (starred n t, refl)

refused_method : (b : Bool) (g : Sign) → is_method_chosen (if b then Err S8 else Err S6) g ≡ false
refused_method true g = refl
refused_method false g = refl

no_method : (es : List Entry) (u : Term) (name from : List ℕ) (g : Sign) → has_method_of es (PointerTo (PointerTo u)) name from g ≡ false
no_method es u name from g = refused_method (is_blank name) g

nothing_under : (es : List Entry) (u w : Term) → asks_nothing w ≡ has_methods_under es (PointerTo (PointerTo u)) w
nothing_under es u NoType = refl
nothing_under es u (Predeclared b) = refl
nothing_under es u ErrorType = sym (no_method es u (codes "Error") [] error_sign)
nothing_under es u (Defined k) = refl
nothing_under es u (PointerTo t) = refl
nothing_under es u (StructOf path fs) = refl
nothing_under es u (InterfaceOf path NoMethod) = refl
nothing_under es u (InterfaceOf path (AMethod name place g ms)) = ap (λ b. b && has_methods es (PointerTo (PointerTo u)) path ms) (sym (no_method es u name path g))

pub implements_nothing : (es : List Entry) (t u i w : Term) → t ≡ PointerTo (PointerTo u) → w ≡ underlying_in (find_entry es) i → asks_nothing w ≡ implements_of es t i
implements_nothing es t u i w is under = ap asks_nothing under ∙ (nothing_under es u (underlying_in (find_entry es) i) ∙ ap (λ x. implements_of es x i) (sym is))

not_zero : (n : ℕ) (b : Bool) → nat_eq n 0 ≡ b → 0 < n → b ≡ false
not_zero n true e l = let z : n ≡ 0 = eqb-true n 0 e in absurd (omega (arith, z, l))
not_zero n false e l = refl

pub none_listed : (n : ℕ) (ms : List Method) → n ≡ length ms → nat_eq n 0 ≡ is_none (method_shapes ms)
none_listed n [] e = ap (λ k. nat_eq k 0) e
none_listed n (m ∷ ms) e = not_zero n (nat_eq n 0) refl (omega (arith, e))

-- a pointer to a pointer has no members
pub no_member : (es : List Entry) (t u : Term) → t ≡ PointerTo (PointerTo u) → Refused S6 ≡ searched (find_entry es) t
no_member es t u is = ap (searched (find_entry es)) (sym is)

-- what a selector denotes

pub told_member : (es : List Entry) (t : Term) (name from : List ℕ) (s : Selected) → IsSelectorAnswer (find_entry es) t name from (Ok s) → chosen_of (Ok s) ≡ selected_of es t name from
told_member es t name from s h = sym ((selectors_decided.denoted es t name from s.path s.through_pointer _).1 h)

pub told_rule : (es : List Entry) (t : Term) (name from : List ℕ) (rule : Rule) → (rule ≡ M0 → ⊥) → IsSelectorAnswer (find_entry es) t name from (Err rule) → chosen_of (Err rule) ≡ selected_of es t name from
told_rule es t name from rule other (inl e) = absurd (other e)
told_rule es t name from rule other (inr h) = sym ((selectors_decided.refused es t name from rule).1 h)
