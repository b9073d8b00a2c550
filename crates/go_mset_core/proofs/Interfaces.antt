-- The methods of interface types.
use Rattle.std.proofs.Common.{◌≡◌, ℕ, zero, suc, Bool, false, List, [], ◌∷◌, ◌++◌, Contains, Some, refl, sym, ap, ◌∙◌, subst, arith, inl, inr}
use Rattle.std.specs.Prelude.{slice_get, codes}
use Rattle.go_path_core.specs.text_core.Text.{SameId, is_blank}
use Rattle.go_term_core.specs.declared.term.MemberPlace.{MemberPlace}
use Rattle.go_term_core.specs.Terms.{Term, NoType, Predeclared, ErrorType, Defined, PointerTo, StructOf, InterfaceOf, Methods, NoMethod, AMethod, Sign, SignOf, Terms, NoTerm, ATerm}
use Rattle.go_term_core.specs.Identity.{IsMethod, SameSign, SameTerms}
use Rattle.go_term_core.specs.Laws.{HasNone}
use Rattle.go_term_core.proofs.Meanings.{itself, onward}
use Rattle.go_select_core.specs.table_core.Assign.{IsInterface}
use Rattle.go_select_core.specs.table_core.Entries.{EntryLook, underlying_in}
use Rattle.go_select_core.specs.embed_core.Owners.{OwnerModel, EmbeddedEdge, Found, AFieldOf, AMethodOf, AnInterfaces, TheErrorMethod, Named, owner_in, path_of_term, term_embedded, declared_found, methods_found, term_found, members_of}
use Rattle.go_select_core.specs.embed_core.OwnersShown.{IsNamedAt}
use Rattle.go_select_core.specs.levels.Paths.{Step, FieldsLead, IsSelected}
use Rattle.go_select_core.proofs.LevelsWalks.{selects_here}
use Rattle.go_mset_core.specs.MethodSets.{IsCallable}
use Rattle.go_mset_core.specs.Implementing.{IsSigned, IsOfInterface, error_sign}
use Rattle.go_mset_core.specs.Laws.{IsInterfaceType, AreNamed, HasNamed, ImplementsItself, ImplementsIsTransitive, InterfacesHaveNoMore}
use Rattle.go_mset_core.proofs.Sets.{has_method_by, searched_interface, set_by, in_set_at}

-- signatures

terms_itself : (ts : Terms) → SameTerms ts ts
terms_itself NoTerm = tt
terms_itself (ATerm t ts) = (itself t, terms_itself ts)

pub sign_itself : (g : Sign) → SameSign g g
sign_itself (SignOf ps rs) = (terms_itself ps, terms_itself rs)

terms_onward : (ts us vs : Terms) → SameTerms ts us → SameTerms us vs → SameTerms ts vs
terms_onward NoTerm NoTerm NoTerm h k = tt
terms_onward NoTerm NoTerm (ATerm v vs) h k = absurd k
terms_onward NoTerm (ATerm u us) vs h k = absurd h
terms_onward (ATerm t ts) NoTerm vs h k = absurd h
terms_onward (ATerm t ts) (ATerm u us) NoTerm h k = absurd k
terms_onward (ATerm t ts) (ATerm u us) (ATerm v vs) h k = (onward t u v h.0 k.0, terms_onward ts us vs h.1 k.1)

sign_onward : (g k l : Sign) → SameSign g k → SameSign k l → SameSign g l
sign_onward (SignOf ps rs) (SignOf qs us) (SignOf xs ys) h k = (terms_onward ps qs xs h.0 k.0, terms_onward rs us ys h.1 k.1)

-- the signature of an interface type's method
abbrev IsSignOf : Found → Sign → Type 0
IsSignOf (AFieldOf path place t) g = ⊥
IsSignOf (AMethodOf path place pointer h) g = ⊥
IsSignOf (AnInterfaces path place h) g = h ≡ g
IsSignOf TheErrorMethod g = error_sign ≡ g

of_callable : (f : Found) (g : Sign) (passes : Bool) → IsSignOf f g → IsCallable f passes
of_callable (AFieldOf path place t) g passes h = absurd h
of_callable (AMethodOf path place pointer k) g passes h = absurd h
of_callable (AnInterfaces path place k) g passes h = tt
of_callable TheErrorMethod g passes h = tt

sign_signed : (f : Found) (g k : Sign) → IsSignOf f g → SameSign g k → IsSigned f k
sign_signed (AFieldOf path place t) g k h s = absurd h
sign_signed (AMethodOf path place pointer l) g k h s = absurd h
sign_signed (AnInterfaces path place l) g k h s = subst (λ x. SameSign x k) (sym h) s
sign_signed TheErrorMethod g k h s = subst (λ x. SameSign x k) (sym h) s

signed_sign : (f : Found) (g k : Sign) → IsSignOf f g → IsSigned f k → SameSign g k
signed_sign (AFieldOf path place t) g k h s = absurd h
signed_sign (AMethodOf path place pointer l) g k h s = absurd h
signed_sign (AnInterfaces path place l) g k h s = subst (λ x. SameSign x k) h s
signed_sign TheErrorMethod g k h s = subst (λ x. SameSign x k) h s

signed_on : (f : Found) (g k : Sign) → IsSigned f g → SameSign g k → IsSigned f k
signed_on (AFieldOf path place t) g k h s = absurd h
signed_on (AMethodOf path place pointer l) g k h s = sign_onward l g k h s
signed_on (AnInterfaces path place l) g k h s = sign_onward l g k h s
signed_on TheErrorMethod g k h s = sign_onward error_sign g k h s

-- the members of an interface type

module _ (path : List ℕ) where
  methods_entry : (ms : Methods) (i : ℕ) (n : Named) → slice_get (methods_found path ms) i ≡ Some n → (g : Sign) × IsOfInterface (InterfaceOf path ms) n.0 n.1.0 g × IsSignOf n.1.1 g
  methods_entry NoMethod i n h = cc
  methods_entry (AMethod name place g ms) zero n h =
      let e : (name, (path, AnInterfaces path place g)) ≡ n = (cc) in
      subst (λ (x : Named). (k : Sign) × IsOfInterface (InterfaceOf path (AMethod name place g ms)) x.0 x.1.0 k × IsSignOf x.1.1 k) e (g, (refl, (place, inl (refl, refl, refl))), refl)
  methods_entry (AMethod name place g ms) (suc i) n h =
      let r = methods_entry ms i n h in
      (r.0, (r.1.0, (r.1.1.0, inr r.1.1.1)), r.2)

  method_entry : (ms : Methods) (name : List ℕ) (place : MemberPlace) (g : Sign) → IsMethod ms name place g → (i : ℕ) × (slice_get (methods_found path ms) i ≡ Some (name, (path, AnInterfaces path place g)))
  method_entry NoMethod name place g h = absurd h
  method_entry (AMethod name' place' g' ms) name place g (inl h) = (0, let a = h.0 in let b = h.1 in let c = h.2 in (cc))
  method_entry (AMethod name' place' g' ms) name place g (inr h) = let r = method_entry ms name place g h in (suc r.0, r.1)

  none_at : (ms : Methods) (name : List ℕ) (i : ℕ) (n : Named) → HasNone name ms → slice_get (methods_found path ms) i ≡ Some n → name ≡ n.0 → ⊥
  none_at NoMethod name i n none h e = cc
  none_at (AMethod name' place g ms) name zero n none h e =
      let is : (name', (path, AnInterfaces path place g)) ≡ n = (cc) in
      none.0 (e ∙ sym (ap (λ (x : Named). x.0) is))
  none_at (AMethod name' place g ms) name (suc i) n none h e = none_at ms name i n none.1 h e

  one_entry : (ms : Methods) (i j : ℕ) (a b : Named) → AreNamed ms → slice_get (methods_found path ms) i ≡ Some a → slice_get (methods_found path ms) j ≡ Some b → a.0 ≡ b.0 → i ≡ j
  one_entry NoMethod i j a b named h k e = cc
  one_entry (AMethod name place g ms) zero zero a b named h k e = refl
  one_entry (AMethod name place g ms) zero (suc j) a b named h k e =
      let is : (name, (path, AnInterfaces path place g)) ≡ a = (cc) in
      absurd (none_at ms name j b named.1 k (ap (λ (x : Named). x.0) is ∙ e))
  one_entry (AMethod name place g ms) (suc i) zero a b named h k e =
      let is : (name, (path, AnInterfaces path place g)) ≡ b = (cc) in
      absurd (none_at ms name i a named.1 h (ap (λ (x : Named). x.0) is ∙ sym e))
  one_entry (AMethod name place g ms) (suc i) (suc j) a b named h k e = ap (λ n. suc n) (one_entry ms i j a b named.2 h k e)

named_blank : (ms : Methods) (name : List ℕ) (place : MemberPlace) (g : Sign) → AreNamed ms → IsMethod ms name place g → is_blank name ≡ false
named_blank NoMethod name place g named h = absurd h
named_blank (AMethod name' place' g' ms) name place g named (inl h) = sym (ap is_blank h.0) ∙ named.0
named_blank (AMethod name' place' g' ms) name place g named (inr h) = named_blank ms name place g named.2 h

-- a member of an interface type is one of its methods
interface_entry : (o : OwnerModel) (u : Term) (i : ℕ) (n : Named) → IsInterface u → slice_get (term_found o u) i ≡ Some n → (g : Sign) × IsOfInterface u n.0 n.1.0 g × IsSignOf n.1.1 g
interface_entry o NoType i n is h = absurd is
interface_entry o (Predeclared b) i n is h = absurd is
interface_entry o ErrorType zero n is h =
    let e : (codes "Error", ([], TheErrorMethod)) ≡ n = (cc) in
    subst (λ (x : Named). (k : Sign) × IsOfInterface ErrorType x.0 x.1.0 k × IsSignOf x.1.1 k) e (error_sign, (refl, refl, refl), refl)
interface_entry o ErrorType (suc i) n is h = cc
interface_entry o (Defined k) i n is h = absurd is
interface_entry o (PointerTo t) i n is h = absurd is
interface_entry o (StructOf path fs) i n is h = absurd is
interface_entry o (InterfaceOf path ms) i n is h = methods_entry path ms i n h

-- a method of an interface type whose names differ stands alone among its members
record StandsAlone (o : OwnerModel) (u : Term) (name from : List ℕ) (g : Sign) : Type 0 where
  pub f : Found
  pub at : ℕ
  pub entry : slice_get (term_found o u) at ≡ Some (name, (from, f))
  pub sign : IsSignOf f g
  pub named : is_blank name ≡ false
  pub only : (j : ℕ) (n : Named) → slice_get (term_found o u) j ≡ Some n → n.0 ≡ name → at ≡ j

stands_alone : (o : OwnerModel) (u : Term) (name from : List ℕ) (g : Sign) → HasNamed u → IsOfInterface u name from g → StandsAlone o u name from g
stands_alone o NoType name from g named h = absurd h
stands_alone o (Predeclared b) name from g named h = absurd h
stands_alone o ErrorType name from g named h =
    record {
      f = TheErrorMethod;
      at = 0;
      entry = (let a = h.0 in let b = h.1 in (cc));
      sign = sym h.2;
      named = ap is_blank h.0;
      only = λ j n k e. one j n k;
    }
  where
    one : (j : ℕ) (n : Named) → slice_get (term_found o ErrorType) j ≡ Some n → 0 ≡ j
    one zero n k = refl
    one (suc j) n k = cc
stands_alone o (Defined k) name from g named h = absurd h
stands_alone o (PointerTo t) name from g named h = absurd h
stands_alone o (StructOf path fs) name from g named h = absurd h
stands_alone o (InterfaceOf path ms) name from g named h =
    let r = method_entry path ms name h.1.0 g h.1.1 in
    record {
      f = AnInterfaces path h.1.0 g;
      at = r.0;
      entry = (let a = h.0 in let b = r.1 in (cc));
      sign = refl;
      named = named_blank ms name h.1.0 g named h.1.1;
      only = λ j n k e. one_entry path ms r.0 j (name, (path, AnInterfaces path h.1.0 g)) n named r.1 k (sym e);
    }

no_edges : (o : OwnerModel) (u : Term) (e : EmbeddedEdge) → IsInterface u → Contains (term_embedded o u) e → ⊥
no_edges o NoType e is h = is
no_edges o (Predeclared b) e is h = is
no_edges o ErrorType e is h = omega (arith, h.1)
no_edges o (Defined k) e is h = is
no_edges o (PointerTo t) e is h = is
no_edges o (StructOf path fs) e is h = is
no_edges o (InterfaceOf path ms) e is h = omega (arith, h.1)

no_step : (look : EntryLook) (t : Term) (i : ℕ) (p : Bool) (v : Term) → IsInterface (underlying_in look t) → Step look t i p v → ⊥
unfolding Step
no_step look t i p v is s = no_edges (owner_in look t) (underlying_in look t) s.0 is s.1

no_path : (look : EntryLook) (t : Term) (path : List ℕ) (p : Bool) (v : Term) → IsInterface (underlying_in look t) → FieldsLead look t path p v → t ≡ v
no_path look t [] p v is h = h.0
no_path look t (i ∷ path) p v is h = absurd (no_step look t i h.1 h.0 is h.3)

own_members : (look : EntryLook) (t : Term) → IsInterfaceType look t → members_of (owner_in look t) ≡ term_found (owner_in look t) (underlying_in look t)
own_members look t is = ap (λ ms. declared_found (path_of_term t) ms ++ term_found (owner_in look t) (underlying_in look t)) is.1

record IsItsMethod (look : EntryLook) (t : Term) (name from : List ℕ) (f : Found) : Type 0 where
  pub own_name : List ℕ
  pub own_from : List ℕ
  pub sign : Sign
  pub of_interface : IsOfInterface (underlying_in look t) own_name own_from sign
  pub same : SameId own_name own_from name from
  pub has : IsSignOf f sign

-- what is selected behind an interface type is one of its methods
its_method : (look : EntryLook) (t : Term) (name from path : List ℕ) (p : Bool) (f : Found) → IsInterfaceType look t → IsSelected look t name from path p f → IsItsMethod look t name from f
its_method look t name from path p f is s =
    let at = no_path look t path p s.hit.at is.0 s.hit.leads in
    let h : IsNamedAt (owner_in look t) name from s.number f = subst (λ v. IsNamedAt (owner_in look v) name from s.number f) (sym at) s.hit.has in
    let e = interface_entry (owner_in look t) (underlying_in look t) s.number h.0 is.0 (sym (ap (λ ns. slice_get ns s.number) (own_members look t is)) ∙ h.1) in
    record { own_name = h.0.0; own_from = h.0.1.0; sign = e.0; of_interface = e.1; same = h.2; has = subst (λ g. IsSignOf g e.0) h.3 e.2 }

pub interface_callable : (look : EntryLook) (t : Term) (name from path : List ℕ) (p : Bool) (f : Found) → IsInterfaceType look t → IsSelected look t name from path p f → (passes : Bool) → IsCallable f passes
interface_callable look t name from path p f is s passes =
    let m = its_method look t name from path p f is s in
    of_callable f m.sign passes m.has

pub itself_implements : ImplementsItself
itself_implements look i is named name from g h =
    let o = owner_in look i in
    let s = stands_alone o (underlying_in look i) name from g named h in
    let members = own_members look i is in
    let has : IsNamedAt o name from s.at s.f = ((name, (from, s.f)), ap (λ ns. slice_get ns s.at) members ∙ s.entry, (refl, inr refl), refl) in
    let selected = selects_here look i name from s.at s.f has (λ j k n. s.only j n.0 (sym (ap (λ ns. slice_get ns j) members) ∙ n.1) n.2.0) in
    ([], s.f, (set_by look i i false name from [] false s.f (searched_interface look i is.0) selected).1 (s.named, of_callable s.f g false s.sign), sign_signed s.f g g s.sign (sign_itself g))

pub transitive : ImplementsIsTransitive
transitive look t i j is ti ij name from g h =
    let x = ij name from g h in
    let s = in_set_at look i i false name from x.0 x.1 (searched_interface look i is.0) x.2 in
    let m = its_method look i name from x.0 s.0 x.1 is s.1 in
    let y = has_method_by look t m.own_name m.own_from name from m.sign m.same (ti m.own_name m.own_from m.sign m.of_interface) in
    (y.0, y.1, y.2, signed_on y.1 m.sign g y.3 (signed_sign x.1 m.sign g m.has x.3))

no_fields : (look : EntryLook) (t : Term) (path : List ℕ) (p : Bool) (v : Term) → IsInterface (underlying_in look t) → FieldsLead look t path p v → path ≡ []
no_fields look t [] p v is h = refl
no_fields look t (i ∷ path) p v is h = absurd (no_step look t i h.1 h.0 is h.3)

pub no_more : InterfacesHaveNoMore
no_more look i name from path m is h =
    let s = in_set_at look i i false name from path m (searched_interface look i is.0) h in
    let x = its_method look i name from path s.0 m is s.1 in
    (no_fields look i path s.0 s.1.hit.at is.0 s.1.hit.leads, (x.own_name, x.own_from, x.sign, x.of_interface, x.same, sign_signed m x.sign x.sign x.has (sign_itself x.sign)))
