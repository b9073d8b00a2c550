-- What is decided depends on what the types reach alone.
use Rattle.std.proofs.Common.{◌≡◌, ◌↔◌, ℕ, Bool, true, false, not, ◌&&◌, ◌||◌, List, [], ◌∷◌, Result, Ok, Err, IsTrue, refl, sym, ap, ◌∙◌, subst, ◌⊎◌, inl, inr}
use Rattle.go_denote_core.specs.text_core.declared.rule.Rule.{Rule}
use Rattle.go_denote_core.specs.text_core.declared.rule.Rule.TheVariants.{M0}
use Rattle.go_term_core.specs.decl_core.declared.keys.DeclKey.{DeclKey}
use Rattle.go_term_core.specs.declared.term.Basic.TheVariants as basics
use Rattle.go_term_core.specs.Terms.{Term, NoType, Predeclared, PointerTo, is_no_type, term_keys}
use Rattle.go_term_core.proofs.Members.{in_contained}
use Rattle.go_table_core.specs.Entries.{Entry, EntryLook, find_entry, underlying_in}
use Rattle.go_table_core.specs.Assign.{Assigned, AValue, ANil, AnInteger, AText, ABoolean, is_named}
use Rattle.go_table_core.specs.Laws.{LeadsTo, AgreeFrom, AssignedAgrees}
use Rattle.go_table_core.proofs.Meanings.{underlying_local}
use Rattle.go_mset_core.specs.select_core.LevelsSelectors.{IsRule}
use Rattle.go_mset_core.specs.select_core.Local.{agree_back, denoted_there, local}
use Rattle.go_mset_core.specs.select_core.Meanings.{one_answer}
use Rattle.go_mset_core.proofs.Locality.{local as implementation_local}
use Rattle.go_handle_core.specs.deciding.Identity.{identical_of, identical_under_of}
use Rattle.go_handle_core.specs.deciding.Conversion.{is_type_term, are_alike, pointers_alike, convertible_of}
use Rattle.go_handle_core.specs.deciding.Selecting.{Choice, selected_of}
use Rattle.go_handle_core.specs.deciding.Implementing.{implements_of}
use Rattle.go_handle_core.specs.deciding.Assigning.{assigned_type, is_interface, is_pointer, is_predeclared, is_fitting, assignable_of}
use Rattle.go_handle_core.specs.deciding.Laws.{DecisionsAreLocal}
use Rattle.go_handle_core.proofs.DecidingChoosing.{IsOutcome, outcome, denoted_is, never_rule}
use Rattle.go_handle_core.proofs.DecidingImplementing.{implementation_decided}

-- two tests of what holds together are one
same_test : {P Q : Type 0} (a b : Bool) → (IsTrue a ↔ P) → (IsTrue b ↔ Q) → (P ↔ Q) → a ≡ b
same_test true true p q both = refl
same_test true false p q both = sym (q.1 (both.0 (p.0 refl)))
same_test false true p q both = p.1 (both.1 (q.0 refl))
same_test false false p q both = refl

-- conversions

alike_there : (look other : EntryLook) (s t : Term) → AgreeFrom look other s → AgreeFrom look other t → are_alike look s t ≡ are_alike other s t
alike_there look other s t a b =
    ap (λ u. not (is_no_type u) && identical_under_of false u (underlying_in look t)) (underlying_local.same look other s a)
    ∙ ap (λ u. is_type_term other s && identical_under_of false (underlying_in other s) u) (underlying_local.same look other t b)

pointers_there : (look other : EntryLook) (s t : Term) → AgreeFrom look other s → AgreeFrom look other t → pointers_alike look s t ≡ pointers_alike other s t
pointers_there look other (PointerTo s) (PointerTo t) a b = alike_there look other s t a b
pointers_there look other (PointerTo s) _ a b = refl
pointers_there look other _ t a b = refl

convertible_there : (look other : EntryLook) (s t : Term) → AgreeFrom look other s → AgreeFrom look other t → convertible_of look s t ≡ convertible_of other s t
convertible_there look other s t a b = ap (λ x. x || pointers_alike look s t) (alike_there look other s t a b) ∙ ap (λ x. are_alike other s t || x) (pointers_there look other s t a b)

-- selectors

outcome_there : (look other : EntryLook) (t : Term) (name from : List ℕ) (r s : Result Choice Rule) → AgreeFrom look other t → IsOutcome look t name from r → IsOutcome other t name from s → r ≡ s
outcome_there look other t name from (Ok c) s a h k = sym (denoted_is other t name from c.path c.passes c.member s k (denoted_there look other t name from c.path c.passes c.member a h))
outcome_there look other t name from (Err rule) (Ok d) a h k =
    absurd (never_rule look t name from d.path d.passes d.member rule (denoted_there other look t name from d.path d.passes d.member (agree_back look other t a) k) h)
outcome_there look other t name from (Err rule) (Err why) a h k =
    ap Err (by ((local.same look other t name from (Err rule) a).0 (inr h)) ((local.same look other t name from (Err why) a).1 (inr k)))
  where
    by : (rule ≡ M0) ⊎ IsRule other t name from rule → (why ≡ M0) ⊎ IsRule look t name from why → rule ≡ why
    by x (inr y) = one_answer.refused look t name from rule why h y
    by (inl x) (inl y) = x ∙ sym y
    by (inr x) (inl y) = one_answer.refused other t name from rule why x k

selected_there : (es others : List Entry) (t : Term) (name from : List ℕ) → AgreeFrom (find_entry es) (find_entry others) t → selected_of es t name from ≡ selected_of others t name from
selected_there es others t name from a = outcome_there (find_entry es) (find_entry others) t name from (selected_of es t name from) (selected_of others t name from) a (outcome es t name from) (outcome others t name from)

-- implementation

implements_there : (es others : List Entry) (t i : Term) → AgreeFrom (find_entry es) (find_entry others) t → AgreeFrom (find_entry es) (find_entry others) i → implements_of es t i ≡ implements_of others t i
implements_there es others t i a b =
    same_test (implements_of es t i) (implements_of others t i) (implementation_decided.implements es t i) (implementation_decided.implements others t i)
    (implementation_local.answers (find_entry es) (find_entry others) t i (Ok tt) a b)

-- assignability

-- what mentions nothing reaches nothing
nothing_led : (look : EntryLook) (through : List DeclKey) (k : DeclKey) → LeadsTo look [] through k → ⊥
nothing_led look [] k h = in_contained [] k h
nothing_led look (j ∷ js) k h = in_contained [] j h.0

nothing_reached : (look other : EntryLook) (t : Term) → term_keys t ≡ [] → AgreeFrom look other t
nothing_reached look other t is k r = absurd (nothing_led look r.0 k (subst (λ ks. LeadsTo look ks r.0 k) is r.1))

assigned_there : (look other : EntryLook) (a : Assigned) → AssignedAgrees look other a → AgreeFrom look other (assigned_type a)
assigned_there look other (AValue v) h = h
assigned_there look other ANil h = nothing_reached look other NoType refl
assigned_there look other AnInteger h = nothing_reached look other (Predeclared basics.Int) refl
assigned_there look other AText h = nothing_reached look other (Predeclared basics.Text) refl
assigned_there look other ABoolean h = nothing_reached look other (Predeclared basics.Bool) refl

-- what is fitting, by the underlying types
abbrev fits_under : Term → Term → Assigned → Term → Bool → Bool
fits_under uv ut (AValue v) t implements =
    not (is_no_type uv) && (identical_of v t || ((identical_under_of true uv ut && not (is_named v && is_named t)) || (is_interface ut && implements)))
fits_under uv ut ANil t implements = is_pointer ut || is_interface ut
fits_under uv ut AnInteger t implements = is_predeclared basics.Int ut || (is_interface ut && implements)
fits_under uv ut AText t implements = is_predeclared basics.Text ut || (is_interface ut && implements)
fits_under uv ut ABoolean t implements = is_predeclared basics.Bool ut || (is_interface ut && implements)

fits_is : (look : EntryLook) (a : Assigned) (t : Term) (implements : Bool) → is_fitting look a t implements ≡ fits_under (underlying_in look (assigned_type a)) (underlying_in look t) a t implements
fits_is look (AValue v) t implements = refl
fits_is look ANil t implements = refl
fits_is look AnInteger t implements = refl
fits_is look AText t implements = refl
fits_is look ABoolean t implements = refl

assignable_there : (es others : List Entry) (a : Assigned) (t : Term) → AssignedAgrees (find_entry es) (find_entry others) a → AgreeFrom (find_entry es) (find_entry others) t → assignable_of es a t ≡ assignable_of others a t
assignable_there es others a t h k =
    let own = assigned_there (find_entry es) (find_entry others) a h in
    let uv = underlying_local.same (find_entry es) (find_entry others) (assigned_type a) own in
    let ut = underlying_local.same (find_entry es) (find_entry others) t k in
    let i = implements_there es others (assigned_type a) t own k in
    ap (λ x. is_type_term (find_entry es) t && x) (fits_is (find_entry es) a t (implements_of es (assigned_type a) t))
    ∙ ((λ j. not (is_no_type (ut j)) && fits_under (uv j) (ut j) a t (i j))
    ∙ ap (λ x. is_type_term (find_entry others) t && x) (sym (fits_is (find_entry others) a t (implements_of others (assigned_type a) t))))

pub decisions_local : DecisionsAreLocal
decisions_local = record { convertible = convertible_there; selected = selected_there; implements = implements_there; assignable = assignable_there }
