-- Laws of embedding and of places where types are looked up.
use Rattle.std.proofs.Common.{◌≡◌, ℕ, zero, suc, ◌+◌, ◌<◌, Bool, true, false, not, ◌&&◌, List, [], ◌∷◌, length, get_or, if◌then◌else◌, inl, inr, refl, sym, ap, ◌∙◌, subst, arith}
use Rattle.std.specs.Prelude.{◌⊎◌, Contains, Option}
use Rattle.std.proofs.lemmas.Bool.{true≢false, and_parts, and_from, not-true, not_from_false}
use Rattle.std.proofs.lemmas.List.Elements.{Contains-append_right, Contains-append_cases}
use Rattle.go_term_core.specs.declared.term.MemberPlace.{MemberPlace}
use Rattle.go_term_core.specs.Terms.{Term, NoType, Predeclared, ErrorType, Defined, PointerTo, StructOf, InterfaceOf, Fields, NoField, AField}
use Rattle.go_type_core.specs.table_core.Entries.{Entry, EntryLook, has_method, methods_in, term_in, underlying_in}
use Rattle.go_embed_core.specs.Owners.{OwnerModel, EmbeddedEdge, embedded_edge, owner_in, is_starred, off, embedded_edges, term_embedded, embedded_in}
use Rattle.go_embed_core.specs.Laws.{IsField, IsStep, EmbeddingIsAStep, OwnerIsLocal}

-- 1. Elements of lists.

pub is_first : {X : Type 0} (x y : X) (xs : List X) → x ≡ y → Contains (x ∷ xs) y
is_first x y xs e = (zero, (let lt : 0 < length (x ∷ xs) = omega arith in lt), e)

pub is_later : {X : Type 0} (x y : X) (xs : List X) → Contains xs y → Contains (x ∷ xs) y
is_later x y xs h = Contains-append_right (x ∷ []) xs y h

pub in_none : {X : Type 0} (y : X) → Contains [] y → ⊥
in_none y h = let lt : h.0 < 0 = h.1 in omega arith

one_place : {X : Type 0} (x y : X) (k : ℕ) → k < 1 → get_or (x ∷ []) k y ≡ y → x ≡ y
one_place x y zero lt e = e
one_place x y (suc k) lt e = absurd (omega arith)

pub in_one : {X : Type 0} (x y : X) → Contains (x ∷ []) y → x ≡ y
in_one x y h = one_place x y h.0 (let lt : h.0 < 1 = h.1 in lt) h.2

pub first_or_later : {X : Type 0} (x y : X) (xs : List X) → Contains (x ∷ xs) y → (x ≡ y) ⊎ Contains xs y
first_or_later x y xs h = elim (Contains-append_cases (x ∷ []) xs y h) [ inl e ↦ inl (in_one x y e) | inr e ↦ inr e ]

-- 2. An embedded field is a step.

record Shows (o : OwnerModel) (path : List ℕ) (fs : Fields) (k : ℕ) (e : EmbeddedEdge) : Type 0 where
  number : ℕ
  place_is : e.position ≡ number + k
  name : List ℕ
  place : MemberPlace
  term : Term
  field : IsField fs number name place true term
  shows : has_method o.path o.methods name path ≡ false
  pointer : e.pointer ≡ is_starred term
  target : e.target ≡ off term

later : (o : OwnerModel) (path : List ℕ) (name : List ℕ) (place : MemberPlace) (embedded : Bool) (t : Term) (tag : List ℕ) (fs : Fields) (k : ℕ) (e : EmbeddedEdge) → Shows o path fs (suc k) e → Shows o path (AField name place embedded t tag fs) k e
later o path name place embedded t tag fs k e s =
    record { number = suc s.number; place_is = (let moved : e.position ≡ suc s.number + k = omega (arith, s.place_is) in moved); name = s.name; place = s.place; term = s.term; field = s.field; shows = s.shows; pointer = s.pointer; target = s.target }

shows_step : (o : OwnerModel) (path : List ℕ) (name : List ℕ) (place : MemberPlace) (embedded : Bool) (t : Term) (tag : List ℕ) (fs : Fields) (k : ℕ) (e : EmbeddedEdge) (es : List EmbeddedEdge) (b : Bool)
    → embedded && not (has_method o.path o.methods name path) ≡ b → Contains (if b then embedded_edge k t ∷ es else es) e → (Contains es e → Shows o path fs (suc k) e) → Shows o path (AField name place embedded t tag fs) k e
shows_step o path name place embedded t tag fs k e es false is h rest = later o path name place embedded t tag fs k e (rest h)
shows_step o path name place embedded t tag fs k e es true is h rest =
    let parts = and_parts embedded (not (has_method o.path o.methods name path)) is in
    elim (first_or_later (embedded_edge k t) e es h) [
      | inl same ↦ record {
        number = zero;
        place_is = (let here : e.position ≡ 0 + k = omega (arith, ap (λ (x : EmbeddedEdge). x.position) same) in here);
        name = name;
        place = place;
        term = t;
        field = (refl, refl, parts.0, refl);
        shows = not-true (has_method o.path o.methods name path) parts.1;
        pointer = sym (ap (λ (x : EmbeddedEdge). x.pointer) same);
        target = sym (ap (λ (x : EmbeddedEdge). x.target) same);
      }
      | inr more ↦ later o path name place embedded t tag fs k e (rest more)
    ]

shows_from : (o : OwnerModel) (path : List ℕ) (k : ℕ) (fs : Fields) (e : EmbeddedEdge) → Contains (embedded_edges o path k fs) e → Shows o path fs k e
shows_from o path k NoField e h = absurd (in_none e h)
shows_from o path k (AField name place embedded t tag fs) e h =
    shows_step o path name place embedded t tag fs k e (embedded_edges o path (suc k) fs) (embedded && not (has_method o.path o.methods name path)) refl h (shows_from o path (suc k) fs e)

stays : (b : Bool) (x e : EmbeddedEdge) (es : List EmbeddedEdge) → Contains es e → Contains (if b then x ∷ es else es) e
stays true x e es h = is_later x e es h
stays false x e es h = h

begins : (b : Bool) (x e : EmbeddedEdge) (es : List EmbeddedEdge) → b ≡ true → x ≡ e → Contains (if b then x ∷ es else es) e
begins true x e es is same = is_first x e es same
begins false x e es is same = absurd (true≢false (sym is))

shows_to : (o : OwnerModel) (path : List ℕ) (k : ℕ) (fs : Fields) (i n : ℕ) (name : List ℕ) (place : MemberPlace) (term : Term) → n ≡ i + k → IsField fs i name place true term → has_method o.path o.methods name path ≡ false
    → Contains (embedded_edges o path k fs) (embedded_edge n term)
shows_to o path k NoField i n name place term e field shows = absurd field
shows_to o path k (AField name' place' embedded t tag fs) zero n name place term e field shows =
    let here : k ≡ n = omega arith in
    let off : not (has_method o.path o.methods name' path) ≡ true = not_from_false (has_method o.path o.methods name' path) (ap (λ m. has_method o.path o.methods m path) field.0 ∙ shows) in
    let b : embedded && not (has_method o.path o.methods name' path) ≡ true = and_from embedded (not (has_method o.path o.methods name' path)) field.2 off in
    begins (embedded && not (has_method o.path o.methods name' path)) (embedded_edge k t) (embedded_edge n term) (embedded_edges o path (suc k) fs) b (ap (λ j. embedded_edge j t) here ∙ ap (embedded_edge n) field.3)
shows_to o path k (AField name' place' embedded t tag fs) (suc i) n name place term e field shows =
    stays (embedded && not (has_method o.path o.methods name' path)) (embedded_edge k t) (embedded_edge n term) (embedded_edges o path (suc k) fs) (shows_to o path (suc k) fs i n name place term (omega arith) field shows)

step_from : (look : EntryLook) (t : Term) (e : EmbeddedEdge) (u : Term) → underlying_in look t ≡ u → Contains (term_embedded (owner_in look t) u) e → IsStep look t e
step_from look t e NoType is h = absurd (in_none e h)
step_from look t e (Predeclared b) is h = absurd (in_none e h)
step_from look t e ErrorType is h = absurd (in_none e h)
step_from look t e (Defined k) is h = absurd (in_none e h)
step_from look t e (PointerTo v) is h = absurd (in_none e h)
step_from look t e (StructOf path fs) is h =
    let s : Shows (owner_in look t) path fs 0 e = shows_from (owner_in look t) path 0 fs e h in
    let spot : s.number ≡ e.position = omega (arith, s.place_is) in
    record { path = path; fields = fs; under = is; name = s.name; place = s.place; term = s.term; field = subst (λ i. IsField fs i s.name s.place true s.term) spot s.field; shows = s.shows; pointer = s.pointer; target = s.target }
step_from look t e (InterfaceOf path ms) is h = absurd (in_none e h)

step_to : (look : EntryLook) (t : Term) (e : EmbeddedEdge) → IsStep look t e → Contains (embedded_in (owner_in look t)) e
step_to look t e s =
    let same : embedded_edge e.position s.term ≡ e = λ i. record { position = e.position; pointer = sym s.pointer i; target = sym s.target i } in
    let there : Contains (embedded_edges (owner_in look t) s.path 0 s.fields) (embedded_edge e.position s.term) =
    shows_to (owner_in look t) s.path 0 s.fields e.position e.position s.name s.place s.term (omega arith) s.field s.shows in
    subst (λ u. Contains (term_embedded (owner_in look t) u) e) (sym s.under) (subst (Contains (embedded_edges (owner_in look t) s.path 0 s.fields)) same there)

pub embedding : EmbeddingIsAStep
embedding look t e = (λ h. step_from look t e (underlying_in look t) refl h, λ s. step_to look t e s)

-- 3. Locality.

pub owner_local : OwnerIsLocal
owner_local look other NoType h = refl
owner_local look other (Predeclared b) h = refl
owner_local look other ErrorType h = refl
owner_local look other (Defined k) h = ap (λ (e : Option Entry). let o : OwnerModel = record { path = k.path; methods = methods_in e; underlying = term_in e } in o) (h k refl)
owner_local look other (PointerTo t) h = refl
owner_local look other (StructOf path fs) h = refl
owner_local look other (InterfaceOf path ms) h = refl
