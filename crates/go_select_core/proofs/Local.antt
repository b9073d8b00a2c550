-- An answer depends on what the operand's type reaches alone.
use Rattle.std.proofs.Common.{◌≡◌, ℕ, suc, Bool, true, false, not, ◌&&◌, List, [], ◌∷◌, ◌++◌, Option, Some, None, Result, Ok, Err, Contains, refl, sym, ap, ◌∙◌, subst, arith, ◌⊎◌, inl, inr, if◌then◌else◌}
use Rattle.std.proofs.lemmas.List.Elements.{Contains-append_left, Contains-append_right}
use Rattle.go_path_core.specs.text_core.declared.rule.Rule.{Rule}
use Rattle.go_term_core.specs.decl_core.declared.keys.DeclKey.{DeclKey}
use Rattle.go_term_core.specs.Terms.{Term, NoType, Predeclared, ErrorType, Defined, PointerTo, StructOf, InterfaceOf, Fields, NoField, AField, Methods, NoMethod, AMethod, term_keys, fields_keys, methods_keys, sign_keys}
use Rattle.go_term_core.proofs.Members.{In as AmongItems}
use Rattle.go_embed_core.specs.table_core.Entries.{Member, Entry, EntryLook, term_in, methods_in, underlying_in, declared_methods, has_method, members_keys, entry_keys}
use Rattle.go_embed_core.specs.table_core.Laws.{LeadsTo, IsReached, AgreeFrom}
use Rattle.go_term_core.specs.declared.settling.kind.Kind.{Kind}
use Rattle.go_term_core.specs.declared.settling.kind.Kind.TheVariants as kinds
use Rattle.go_term_core.specs.settling.Settled.{kind_of_term}
use Rattle.go_embed_core.specs.Owners.{OwnerModel, EmbeddedEdge, embedded_edge, off, owner_in, embedded_edges, term_embedded, embedded_in, has_spelled, Found, Named, AFieldOf, fields_found, methods_found, declared_found, term_found, members_of}
use Rattle.go_embed_core.specs.OwnersShown.{IsNamedAt, found_shown}
use Rattle.go_select_core.specs.declared.levels.search.Selected.{Selected}
use Rattle.go_select_core.specs.levels.Paths.{Step, FieldsLead, Hit, HasHit, IsSelected, IsMemberSpelled}
use Rattle.go_select_core.specs.levels.Selectors.{Searched, Refused, In, FieldsIn, unless_refused, term_kind_in, searched_under, searched, IsMissing, ambiguous, hidden, absent, IsFoundSelected, IsFoundAs, IsDenoted, IsRefused, IsSelectorAnswer}
use Rattle.go_select_core.specs.Laws.{found_keys, SelectionIsLocal, ListingIsLocal}
use Rattle.go_select_core.proofs.LevelsListLemmas.{at_in}
use Rattle.go_select_core.proofs.LevelsEdges.{step_edge}

-- what is reached through a list of types that are reached

abbrev Covered : EntryLook → Term → List DeclKey → Type 0
Covered look t mentioned = (j : DeclKey) → Contains mentioned j → IsReached look t j

leads_on : (look : EntryLook) (mentioned through : List DeclKey) (j : DeclKey) (js : List DeclKey) (k : DeclKey) → LeadsTo look mentioned through j → (e : Entry) × (look j ≡ Some e) × LeadsTo look (entry_keys e) js k
    → LeadsTo look mentioned (through ++ j ∷ js) k
leads_on look mentioned [] j js k h r = (h, r)
leads_on look mentioned (x ∷ through) j js k h r = (h.0, (h.1.0, h.1.1, leads_on look (entry_keys h.1.0) through j js k h.1.2 r))

reach_on : (look : EntryLook) (t : Term) (j : DeclKey) (e : Entry) → IsReached look t j → look j ≡ Some e → Covered look t (entry_keys e)
reach_on look t j e r is k h = (r.0 ++ j ∷ [], leads_on look (term_keys t) r.0 j [] k r.1 (e, is, h))

pub reach_through : (look : EntryLook) (t u : Term) → Covered look t (term_keys u) → (k : DeclKey) → IsReached look u k → IsReached look t k
reach_through look t u covered k r = by r.0 r.1
  where
    by : (through : List DeclKey) → LeadsTo look (term_keys u) through k → IsReached look t k
    by [] h = covered k h
    by (j ∷ js) h = let m = covered j h.0 in (m.0 ++ j ∷ js, leads_on look (term_keys t) m.0 j js k m.1 h.1)

-- what a type's owner mentions is reached

pub under_covered : (look : EntryLook) (t : Term) → Covered look t (term_keys (underlying_in look t))
under_covered look NoType j h = ([], h)
under_covered look (Predeclared b) j h = ([], h)
under_covered look ErrorType j h = ([], h)
under_covered look (Defined k) j h = by (look k) refl
  where
    by : (r : Option Entry) → look k ≡ r → IsReached look (Defined k) j
    by None is = let z : Contains [] j = subst (λ r. Contains (term_keys (term_in r)) j) is h in absurd (omega (arith, z.1))
    by (Some e) is =
        let m : Contains (term_keys e.term) j = subst (λ r. Contains (term_keys (term_in r)) j) is h in
        (k ∷ [], ((0, omega arith, refl), (e, is, Contains-append_left (term_keys e.term) (members_keys e.methods) j m)))
under_covered look (PointerTo t) j h = ([], h)
under_covered look (StructOf path fs) j h = ([], h)
under_covered look (InterfaceOf path ms) j h = ([], h)

methods_covered : (look : EntryLook) (t : Term) → Covered look t (members_keys (declared_methods look t))
methods_covered look NoType j h = absurd (omega (arith, h.1))
methods_covered look (Predeclared b) j h = absurd (omega (arith, h.1))
methods_covered look ErrorType j h = absurd (omega (arith, h.1))
methods_covered look (Defined k) j h = by (look k) refl
  where
    by : (r : Option Entry) → look k ≡ r → IsReached look (Defined k) j
    by None is = let z : Contains [] j = subst (λ r. Contains (members_keys (methods_in r)) j) is h in absurd (omega (arith, z.1))
    by (Some e) is =
        let m : Contains (members_keys e.methods) j = subst (λ r. Contains (members_keys (methods_in r)) j) is h in
        (k ∷ [], ((0, omega arith, refl), (e, is, Contains-append_right (term_keys e.term) (members_keys e.methods) j m)))
methods_covered look (PointerTo t) j h = absurd (omega (arith, h.1))
methods_covered look (StructOf path fs) j h = absurd (omega (arith, h.1))
methods_covered look (InterfaceOf path ms) j h = absurd (omega (arith, h.1))

-- an edge's end mentions what the struct type does

off_keys : (t : Term) → term_keys (off t) ≡ term_keys t
off_keys NoType = refl
off_keys (Predeclared b) = refl
off_keys ErrorType = refl
off_keys (Defined k) = refl
off_keys (PointerTo t) = refl
off_keys (StructOf path fs) = refl
off_keys (InterfaceOf path ms) = refl

edge_step : (b : Bool) (i : ℕ) (t : Term) (keys : List DeclKey) (rest : List EmbeddedEdge) (e : EmbeddedEdge) (j : DeclKey) → (AmongItems rest e → Contains keys j) → AmongItems (if b then embedded_edge i t ∷ rest else rest) e → Contains (term_keys e.target) j → Contains (term_keys t ++ keys) j
edge_step true i t keys rest e j more (inl s) h =
    let k : term_keys e.target ≡ term_keys t = ap (λ (x : EmbeddedEdge). term_keys x.target) (sym s) ∙ off_keys t in
    Contains-append_left (term_keys t) keys j (subst (λ ks. Contains ks j) k h)
edge_step true i t keys rest e j more (inr r) h = Contains-append_right (term_keys t) keys j (more r)
edge_step false i t keys rest e j more r h = Contains-append_right (term_keys t) keys j (more r)

fields_edge : (o : OwnerModel) (path : List ℕ) (i : ℕ) (fs : Fields) (e : EmbeddedEdge) (j : DeclKey) → AmongItems (embedded_edges o path i fs) e → Contains (term_keys e.target) j → Contains (fields_keys fs) j
fields_edge o path i NoField e j r h = absurd r
fields_edge o path i (AField name place embedded t tag fs) e j r h =
    edge_step (embedded && not (has_method o.path o.methods name path)) i t (fields_keys fs) (embedded_edges o path (suc i) fs) e j (λ s. fields_edge o path (suc i) fs e j s h) r h

term_edge_keys : (o : OwnerModel) (u : Term) (e : EmbeddedEdge) (j : DeclKey) → AmongItems (term_embedded o u) e → Contains (term_keys e.target) j → Contains (term_keys u) j
term_edge_keys o NoType e j r h = absurd r
term_edge_keys o (Predeclared b) e j r h = absurd r
term_edge_keys o ErrorType e j r h = absurd r
term_edge_keys o (Defined k) e j r h = absurd r
term_edge_keys o (PointerTo t) e j r h = absurd r
term_edge_keys o (StructOf path fs) e j r h = fields_edge o path 0 fs e j r h
term_edge_keys o (InterfaceOf path ms) e j r h = absurd r

pub step_covered : (look : EntryLook) (t : Term) (i : ℕ) (p : Bool) (u : Term) → Step look t i p u → Covered look t (term_keys u)
step_covered look t i p u s j h =
    let x = step_edge look t i p u s in
    under_covered look t j (term_edge_keys (owner_in look t) (owner_in look t).underlying x.0 j x.2 (subst (λ v. Contains (term_keys v) j) (sym x.5) h))

pub leads_covered : (look : EntryLook) (t : Term) (q : List ℕ) (p : Bool) (u : Term) → FieldsLead look t q p u → (k : DeclKey) → IsReached look u k → IsReached look t k
leads_covered look t [] p u h k r = subst (λ v. IsReached look v k) (sym h.0) r
leads_covered look t (i ∷ q) p u h k r = reach_through look t h.0 (step_covered look t i h.1 h.0 h.3) k (leads_covered look h.0 q h.2 u h.4 k r)

-- what a member mentions is reached

declared_named : (path : List ℕ) (ms : List Member) (n : Named) (j : DeclKey) → AmongItems (declared_found path ms) n → Contains (found_keys n.1.1) j → Contains (members_keys ms) j
declared_named path [] n j r h = absurd r
declared_named path (m ∷ ms) n j (inl s) h = Contains-append_left (sign_keys m.sign) (members_keys ms) j (subst (λ (x : Named). Contains (found_keys x.1.1) j) (sym s) h)
declared_named path (m ∷ ms) n j (inr r) h = Contains-append_right (sign_keys m.sign) (members_keys ms) j (declared_named path ms n j r h)

field_step : (b : Bool) (x n : Named) (keys more_keys : List DeclKey) (rest : List Named) (j : DeclKey) → (AmongItems rest n → Contains more_keys j) → (x ≡ n → Contains keys j) → AmongItems (if b then rest else x ∷ rest) n → Contains (keys ++ more_keys) j
field_step true x n keys more_keys rest j more here r = Contains-append_right keys more_keys j (more r)
field_step false x n keys more_keys rest j more here (inl s) = Contains-append_left keys more_keys j (here s)
field_step false x n keys more_keys rest j more here (inr r) = Contains-append_right keys more_keys j (more r)

fields_named : (o : OwnerModel) (path : List ℕ) (fs : Fields) (n : Named) (j : DeclKey) → AmongItems (fields_found o path fs) n → Contains (found_keys n.1.1) j → Contains (fields_keys fs) j
fields_named o path NoField n j r h = absurd r
fields_named o path (AField name place embedded t tag fs) n j r h =
    field_step (has_method o.path o.methods name path) (name, (path, AFieldOf path place t)) n (term_keys t) (fields_keys fs) (fields_found o path fs) j (λ s. fields_named o path fs n j s h)
    (λ s. subst (λ (x : Named). Contains (found_keys x.1.1) j) (sym s) h) r

methods_named : (path : List ℕ) (ms : Methods) (n : Named) (j : DeclKey) → AmongItems (methods_found path ms) n → Contains (found_keys n.1.1) j → Contains (methods_keys ms) j
methods_named path NoMethod n j r h = absurd r
methods_named path (AMethod name place g ms) n j (inl s) h = Contains-append_left (sign_keys g) (methods_keys ms) j (subst (λ (x : Named). Contains (found_keys x.1.1) j) (sym s) h)
methods_named path (AMethod name place g ms) n j (inr r) h = Contains-append_right (sign_keys g) (methods_keys ms) j (methods_named path ms n j r h)

term_named : (o : OwnerModel) (u : Term) (n : Named) (j : DeclKey) → AmongItems (term_found o u) n → Contains (found_keys n.1.1) j → Contains (term_keys u) j
term_named o NoType n j r h = absurd r
term_named o (Predeclared b) n j r h = absurd r
term_named o ErrorType n j (inl s) h = subst (λ (x : Named). Contains (found_keys x.1.1) j) (sym s) h
term_named o ErrorType n j (inr r) h = absurd r
term_named o (Defined k) n j r h = absurd r
term_named o (PointerTo t) n j r h = absurd r
term_named o (StructOf path fs) n j r h = fields_named o path fs n j r h
term_named o (InterfaceOf path ms) n j r h = methods_named path ms n j r h

among_append : {A : Type 0} (xs ys : List A) (x : A) → AmongItems (xs ++ ys) x → AmongItems xs x ⊎ AmongItems ys x
among_append [] ys x r = inr r
among_append (y ∷ xs) ys x (inl s) = inl (inl s)
among_append (y ∷ xs) ys x (inr r) = elim (among_append xs ys x r) [ inl s ↦ inl (inr s) | inr s ↦ inr s ]

pub named_covered : (look : EntryLook) (t : Term) (name from : List ℕ) (i : ℕ) (f : Found) → IsNamedAt (owner_in look t) name from i f → Covered look t (found_keys f)
named_covered look t name from i f h j mentioned =
    let m : Contains (found_keys h.0.1.1) j = subst (λ g. Contains (found_keys g) j) (sym h.3) mentioned in
    elim (among_append (declared_found (owner_in look t).path (owner_in look t).methods) (term_found (owner_in look t) (owner_in look t).underlying) h.0 (at_in (members_of (owner_in look t)) i h.0 h.1)) [
      | inl r ↦ methods_covered look t j (declared_named (owner_in look t).path (owner_in look t).methods h.0 j r m)
      | inr r ↦ under_covered look t j (term_named (owner_in look t) (owner_in look t).underlying h.0 j r m)
    ]

-- two tables that agree on what is reached

agree_owner : (look other : EntryLook) (t : Term) → AgreeFrom look other t → owner_in look t ≡ owner_in other t
agree_owner look other NoType a = refl
agree_owner look other (Predeclared b) a = refl
agree_owner look other ErrorType a = refl
agree_owner look other (Defined k) a =
    let owner : Option Entry → OwnerModel = λ r. record { path = k.path; methods = methods_in r; underlying = term_in r } in
    ap owner (a k ([], (0, omega arith, refl)))
agree_owner look other (PointerTo t) a = refl
agree_owner look other (StructOf path fs) a = refl
agree_owner look other (InterfaceOf path ms) a = refl

pub agree_along : (look other : EntryLook) (t u : Term) → AgreeFrom look other t → ((k : DeclKey) → IsReached look u k → IsReached look t k) → AgreeFrom look other u
agree_along look other t u a inside k r = a k (inside k r)

pub agree_back : (look other : EntryLook) (t : Term) → AgreeFrom look other t → AgreeFrom other look t
agree_back look other t a k r = sym (a k (go (term_keys t) r.0 (λ j h. ([], h)) r.1))
  where
    go : (mentioned through : List DeclKey) → Covered look t mentioned → LeadsTo other mentioned through k → IsReached look t k
    go mentioned [] covered h = covered k h
    go mentioned (j ∷ js) covered h =
        let m = covered j h.0 in
        go (entry_keys h.1.0) js (reach_on look t j h.1.0 m (a j m ∙ h.1.1)) h.1.2

step_there : (look other : EntryLook) (t : Term) (i : ℕ) (p : Bool) (u : Term) → owner_in look t ≡ owner_in other t → Step look t i p u → Step other t i p u
unfolding Step
step_there look other t i p u same s = (s.0, subst (λ o. Contains (embedded_in o) s.0) same s.1, s.2, s.3, s.4)

leads_there : (look other : EntryLook) (t : Term) (q : List ℕ) (p : Bool) (u : Term) → AgreeFrom look other t → FieldsLead look t q p u → FieldsLead other t q p u
leads_there look other t [] p u a h = h
leads_there look other t (i ∷ q) p u a h = (
  h.0,
  h.1,
  h.2,
  step_there look other t i h.1 h.0 (agree_owner look other t a) h.3,
  leads_there look other h.0 q h.2 u (agree_along look other t h.0 a (reach_through look t h.0 (step_covered look t i h.1 h.0 h.3))) h.4,
  h.5,
)

end_owner : (look other : EntryLook) (t : Term) (q : List ℕ) (p : Bool) (u : Term) → AgreeFrom look other t → FieldsLead look t q p u → owner_in look u ≡ owner_in other u
end_owner look other t q p u a h = agree_owner look other u (agree_along look other t u a (leads_covered look t q p u h))

hit_there : (look other : EntryLook) (t : Term) (name from : List ℕ) (q : List ℕ) (p : Bool) (m : ℕ) (f : Found) → AgreeFrom look other t → Hit look t name from q p m f → Hit other t name from q p m f
hit_there look other t name from q p m f a h =
    record { at = h.at; leads = leads_there look other t q p h.at a h.leads; has = subst (λ o. IsNamedAt o name from m f) (end_owner look other t q p h.at a h.leads) h.has }

has_there : (look other : EntryLook) (t : Term) (name from : List ℕ) → AgreeFrom look other t → HasHit look t name from → HasHit other t name from
has_there look other t name from a h = (h.0, h.1, h.2, h.3, hit_there look other t name from h.0 h.1 h.2 h.3 a h.4)

pub selected_there : (look other : EntryLook) (t : Term) (name from : List ℕ) (q : List ℕ) (p : Bool) (f : Found) → AgreeFrom look other t → IsSelected look t name from q p f → IsSelected other t name from q p f
selected_there look other t name from q p f a s =
    record {
      number = s.number;
      hit = hit_there look other t name from q p s.number f a s.hit;
      shortest = λ r b m g h. s.shortest r b m g (hit_there other look t name from r b m g (agree_back look other t a) h);
    }

spelled_there : (look other : EntryLook) (t : Term) (name : List ℕ) → AgreeFrom look other t → IsMemberSpelled look t name → IsMemberSpelled other t name
spelled_there look other t name a s =
    (s.0, s.1, s.2, leads_there look other t s.0 s.1 s.2 a s.3, sym (ap (λ o. has_spelled o name) (end_owner look other t s.0 s.1 s.2 a s.3)) ∙ s.4)

missing_there : (look other : EntryLook) (t : Term) (name from : List ℕ) (r : Rule) → AgreeFrom look other t → IsMissing look t name from r → IsMissing other t name from r
missing_there look other t name from r a (ambiguous x) =
    ambiguous (record { some = has_there look other t name from a x.some; none = λ q p f s. x.none q p f (selected_there other look t name from q p f (agree_back look other t a) s) })
missing_there look other t name from r a (hidden none x) =
    hidden (λ h. none (has_there other look t name from (agree_back look other t a) h)) (spelled_there look other t name a x)
missing_there look other t name from r a (absent none x) =
    absent (λ h. none (has_there other look t name from (agree_back look other t a) h)) (λ h. x (spelled_there other look t name (agree_back look other t a) h))

-- what is searched

abbrev pub ReachesWhat : EntryLook → Term → Searched → Type 0
ReachesWhat look t (Refused why) = Unit {0}
ReachesWhat look t (In u by_pointer) = (k : DeclKey) → IsReached look u k → IsReached look t k
ReachesWhat look t (FieldsIn u) = (k : DeclKey) → IsReached look u k → IsReached look t k

reach_kind : (look : EntryLook) (t : Term) (k : Kind) (w : Searched) → ReachesWhat look t w → ReachesWhat look t (unless_refused k w)
reach_kind look t kinds.Nothing w h = tt
reach_kind look t kinds.Pointer w h = tt
reach_kind look t kinds.Interface w h = tt
reach_kind look t kinds.Other w h = h

reach_under : (look : EntryLook) (t u : Term) → Covered look t (term_keys u) → ReachesWhat look t (searched_under look t u)
reach_under look t NoType covered = tt
reach_under look t (Predeclared b) covered = λ k r. r
reach_under look t ErrorType covered = λ k r. r
reach_under look t (Defined j) covered = λ k r. r
reach_under look t (PointerTo u) covered = reach_kind look t (term_kind_in look u) (FieldsIn u) (reach_through look t u covered)
reach_under look t (StructOf path fs) covered = λ k r. r
reach_under look t (InterfaceOf path ms) covered = λ k r. r

pub reach_searched : (look : EntryLook) (t : Term) → ReachesWhat look t (searched look t)
reach_searched look NoType = tt
reach_searched look (Predeclared b) = λ k r. r
reach_searched look ErrorType = λ k r. r
reach_searched look (Defined j) = reach_under look (Defined j) (underlying_in look (Defined j)) (under_covered look (Defined j))
reach_searched look (PointerTo u) = reach_kind look (PointerTo u) (term_kind_in look u) (In u true) (reach_through look (PointerTo u) u (λ j h. ([], h)))
reach_searched look (StructOf path fs) = λ k r. r
reach_searched look (InterfaceOf path ms) = λ k r. r

pub kind_same : (look other : EntryLook) (u : Term) → AgreeFrom look other u → term_kind_in look u ≡ term_kind_in other u
kind_same look other u a = ap (λ (o : OwnerModel). kind_of_term o.underlying) (agree_owner look other u a)

under_same : (look other : EntryLook) (t u : Term) → AgreeFrom look other t → Covered look t (term_keys u) → searched_under look t u ≡ searched_under other t u
under_same look other t NoType a covered = refl
under_same look other t (Predeclared b) a covered = refl
under_same look other t ErrorType a covered = refl
under_same look other t (Defined j) a covered = refl
under_same look other t (PointerTo u) a covered = ap (λ k. unless_refused k (FieldsIn u)) (kind_same look other u (agree_along look other t u a (reach_through look t u covered)))
under_same look other t (StructOf path fs) a covered = refl
under_same look other t (InterfaceOf path ms) a covered = refl

pub searched_same : (look other : EntryLook) (t : Term) → AgreeFrom look other t → searched look t ≡ searched other t
searched_same look other NoType a = refl
searched_same look other (Predeclared b) a = refl
searched_same look other ErrorType a = refl
searched_same look other (Defined j) a =
    under_same look other (Defined j) (underlying_in look (Defined j)) a (under_covered look (Defined j))
    ∙ ap (λ (o : OwnerModel). searched_under other (Defined j) o.underlying) (agree_owner look other (Defined j) a)
searched_same look other (PointerTo u) a = ap (λ k. unless_refused k (In u true)) (kind_same look other u (agree_along look other (PointerTo u) u a (reach_through look (PointerTo u) u (λ j h. ([], h)))))
searched_same look other (StructOf path fs) a = refl
searched_same look other (InterfaceOf path ms) a = refl

found_there : (look other : EntryLook) (t : Term) (w : Searched) (name from path : List ℕ) (passes : Bool) (f : Found) → AgreeFrom look other t → ReachesWhat look t w → IsFoundAs look w name from path passes f → IsFoundAs other w name from path passes f
found_there look other t (Refused why) name from path passes f a inside h = h
found_there look other t (In u by_pointer) name from path passes f a inside h = (h.0, selected_there look other u name from path h.0 f (agree_along look other t u a inside) h.1, h.2)
found_there look other t (FieldsIn u) name from path passes f a inside h =
    ((h.0.0, selected_there look other u name from path h.0.0 f (agree_along look other t u a inside) h.0.1, h.0.2), h.1)

pub denoted_there : (look other : EntryLook) (t : Term) (name from path : List ℕ) (passes : Bool) (f : Found) → AgreeFrom look other t → IsDenoted look t name from path passes f → IsDenoted other t name from path passes f
denoted_there look other t name from path passes f a h =
    (h.0, subst (λ w. IsFoundAs other w name from path passes f) (searched_same look other t a) (found_there look other t (searched look t) name from path passes f a (reach_searched look t) h.1))

refused_there : (look other : EntryLook) (t : Term) (w : Searched) (name from : List ℕ) (r : Rule) → AgreeFrom look other t → ReachesWhat look t w → IsRefused look w name from r → IsRefused other w name from r
refused_there look other t (Refused why) name from r a inside h = h
refused_there look other t (In u by_pointer) name from r a inside h = missing_there look other u name from r (agree_along look other t u a inside) h
refused_there look other t (FieldsIn u) name from r a inside (inl h) = inl (missing_there look other u name from r (agree_along look other t u a inside) h)
refused_there look other t (FieldsIn u) name from r a inside (inr h) =
    inr ((h.0.0, h.0.1, h.0.2, selected_there look other u name from h.0.0 h.0.1 h.0.2 (agree_along look other t u a inside) h.0.3, h.0.4), h.1)

answer_there : (look other : EntryLook) (t : Term) (name from : List ℕ) (r : Result Selected Rule) → AgreeFrom look other t → IsSelectorAnswer look t name from r → IsSelectorAnswer other t name from r
answer_there look other t name from (Ok s) a h = denoted_there look other t name from s.path s.through_pointer (found_shown s.member) a h
answer_there look other t name from (Err r) a (inl h) = inl h
answer_there look other t name from (Err r) a (inr (inl h)) = inr (inl h)
answer_there look other t name from (Err r) a (inr (inr h)) =
    inr (inr (h.0, subst (λ w. IsRefused other w name from r) (searched_same look other t a) (refused_there look other t (searched look t) name from r a (reach_searched look t) h.1)))

found_inside : (look : EntryLook) (t : Term) (w : Searched) (name from : List ℕ) (s : Selected) → ReachesWhat look t w → IsFoundSelected look w name from s → Covered look t (found_keys (found_shown s.member))
found_inside look t (Refused why) name from s inside h = absurd h
found_inside look t (In u by_pointer) name from s inside h =
    let i = h.1.hit in
    λ j m. inside j (leads_covered look u s.path h.0 i.at i.leads j (named_covered look i.at name from h.1.number (found_shown s.member) i.has j m))
found_inside look t (FieldsIn u) name from s inside h =
    let i = h.0.1.hit in
    λ j m. inside j (leads_covered look u s.path h.0.0 i.at i.leads j (named_covered look i.at name from h.0.1.number (found_shown s.member) i.has j m))

pub local : SelectionIsLocal
local =
    record {
      same = λ look other t name from r a. (λ h. answer_there look other t name from r a h, λ h. answer_there other look t name from r (agree_back look other t a) h);
      inside = λ look t name from s k h m. found_inside look t (searched look t) name from s (reach_searched look t) h.1 k m;
    }

-- the names that selectors have are the same too
pub listing_there : ListingIsLocal
listing_there look other t from names a l =
    record {
      rising = l.rising;
      sound = λ n c. answer_there look other t n.0 from (Ok n.1) a (l.sound n c);
      whole = λ name path passes f d. l.whole name path passes f (denoted_there other look t name from path passes f (agree_back look other t a) d);
    }
