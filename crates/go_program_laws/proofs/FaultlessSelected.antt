-- What is selected of a type over a predeclared type is one of the methods that are declared of it.
use Rattle.std.proofs.Common.{◌≡◌, inl, inr, ℕ, zero, suc, Bool, List, [], ◌∷◌, ◌++◌, Some, None, Ok, Contains, refl, sym, ap, ◌∙◌, subst}
use Rattle.std.specs.Prelude.{slice_get}
use Rattle.go_term_core.specs.declared.term.Basic.{Basic}
use Rattle.go_term_core.specs.Terms.{Term, NoType, Predeclared, ErrorType, Defined, PointerTo, StructOf, InterfaceOf}
use Rattle.go_body_core.specs.table_core.Entries.{Entry, EntryLook, Member, declared_methods, find_entry, underlying_in}
use Rattle.go_select_core.specs.embed_core.Owners.{AMethodOf, EmbeddedEdge, Found, Named, OwnerModel, declared_found, owner_in, path_of_term, term_embedded, term_found}
use Rattle.go_select_core.specs.levels.Paths.{FieldsLead, IsSelected, Step}
use Rattle.go_select_core.specs.levels.Selectors.{IsFoundAs, searched, searched_under}
use Rattle.go_meaning_laws.specs.handle_core.DecidingSelecting.{Choice, selected_of}
use Rattle.go_meaning_laws.specs.handle_core.DecidingChoosing.{IsOutcome, outcome}
use Rattle.go_body_core.specs.typexpr_core.EntryAmong.{Among, among_from}

-- a method that is declared of the type itself
pub record IsOwnMethod (look : EntryLook) (t : Term) (path : List ℕ) (f : Found) : Type 0 where
  pub member : Member
  pub there : Among (declared_methods look t) member
  pub own : path ≡ []
  pub is : f ≡ AMethodOf (path_of_term t) member.place member.pointer member.sign

module _ (home : List ℕ) (o : OwnerModel) (u : Term) (b : Basic) (basic : u ≡ Predeclared b) where
  none_left : (k : ℕ) (n : Named) → slice_get (term_found o u) k ≡ Some n → ⊥
  none_left k n e = (let no : None ≡ Some n = sym (ap (λ (v : Term). slice_get (term_found o v) k) basic) ∙ e in cc no)

  of_declared : (ms : List Member) (k : ℕ) (n : Named) → slice_get (declared_found home ms ++ term_found o u) k ≡ Some n → (m : Member) × Among ms m × (n.1.1 ≡ AMethodOf home m.place m.pointer m.sign)
  of_declared [] k n e = absurd (none_left k n e)
  of_declared (m ∷ ms) zero n e =
      let is : Some (m.name, (home, AMethodOf home m.place m.pointer m.sign)) ≡ Some n = e in
      let same : (m.name, (home, AMethodOf home m.place m.pointer m.sign)) ≡ n = cc is in
      (m, inl refl, sym (ap (λ (x : Named). x.1.1) same))
  of_declared (m ∷ ms) (suc k) n e = (let r = of_declared ms k n e in (r.0, inr r.1, r.2))

module _ (look : EntryLook) (t : Term) (b : Basic) (basic : underlying_in look t ≡ Predeclared b) (name from : List ℕ) where
  no_edge : (e : EmbeddedEdge) → Contains (term_embedded (owner_in look t) (underlying_in look t)) e → ⊥
  no_edge e h = among_from [] e (subst (λ (u : Term). Contains (term_embedded (owner_in look t) u) e) basic h)

  no_step : (i : ℕ) (pointer : Bool) (v : Term) → Step look t i pointer v → ⊥
  unfolding Step
  no_step i pointer v s = no_edge s.0 s.1

  at_once : (path : List ℕ) (pointer : Bool) (at : Term) → FieldsLead look t path pointer at → (path ≡ []) × (t ≡ at)
  at_once [] pointer at h = (refl, h.0)
  at_once (i ∷ path) pointer at h = absurd (no_step i h.1 h.0 h.3)

  found_as : (n : Named) (f : Found) (m : Member) → n.1.1 ≡ f → n.1.1 ≡ AMethodOf (path_of_term t) m.place m.pointer m.sign → f ≡ AMethodOf (path_of_term t) m.place m.pointer m.sign
  found_as n f m at is = sym at ∙ is

  own_selected : (path : List ℕ) (pointer : Bool) (f : Found) → IsSelected look t name from path pointer f → IsOwnMethod look t path f
  own_selected path pointer f s =
      let lead = at_once path pointer s.hit.at s.hit.leads in
      let named = subst (λ (u : Term). (n : Named) × (slice_get (declared_found (path_of_term u) (declared_methods look u) ++ term_found (owner_in look u) (underlying_in look u)) s.number ≡ Some n) × (n.1.1 ≡ f)) (sym lead.1) (s.hit.has.0, s.hit.has.1, s.hit.has.3) in
      let m = of_declared (path_of_term t) (owner_in look t) (underlying_in look t) b basic (declared_methods look t) s.number named.0 named.1 in
      record { member = m.0; there = m.1; own = lead.0; is = found_as named.0 f m.0 named.2 m.2 }

-- where a selector of it is searched
found_own : (look : EntryLook) (t : Term) (b : Basic) → underlying_in look t ≡ Predeclared b → (name from path : List ℕ) (passes : Bool) (f : Found) → IsFoundAs look (searched look t) name from path passes f → IsOwnMethod look t path f
found_own look NoType b basic name from path passes f h = absurd h
found_own look (Predeclared c) b basic name from path passes f h = own_selected look (Predeclared c) b basic name from path h.0 f h.1
found_own look ErrorType b basic name from path passes f h = absurd (cc basic)
found_own look (Defined k) b basic name from path passes f h =
    let there = subst (λ (u : Term). IsFoundAs look (searched_under look (Defined k) u) name from path passes f) basic h in
    own_selected look (Defined k) b basic name from path there.0 f there.1
found_own look (PointerTo u) b basic name from path passes f h = absurd (cc basic)
found_own look (StructOf home fs) b basic name from path passes f h = absurd (cc basic)
found_own look (InterfaceOf home ms) b basic name from path passes f h = absurd (cc basic)

pub own_method : (es : List Entry) (t : Term) (b : Basic) → underlying_in (find_entry es) t ≡ Predeclared b → (name from : List ℕ) (c : Choice) → selected_of es t name from ≡ Ok c → IsOwnMethod (find_entry es) t c.path c.member
own_method es t b basic name from c e =
    let d = subst (λ r. IsOutcome (find_entry es) t name from r) e (outcome es t name from) in
    found_own (find_entry es) t b basic name from c.path c.passes c.member d.1
