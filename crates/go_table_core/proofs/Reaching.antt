-- What is reached from a type.
use Rattle.std.proofs.Common.{◌≡◌, ◌↔◌, inl, inr, List, [], ◌∷◌, ◌++◌, Option, Some, None, refl, sym, ap, ◌∙◌, subst}
use Rattle.std.specs.Prelude.{Contains}
use Rattle.std.proofs.lemmas.List.Elements.{Contains-append_left, Contains-append_right, Contains-push_cases}
use Rattle.go_term_core.specs.decl_core.declared.keys.DeclKey.{DeclKey}
use Rattle.go_term_core.specs.Terms.{Term, NoType, Predeclared, ErrorType, Defined, PointerTo, StructOf, InterfaceOf, term_keys}
use Rattle.go_term_core.proofs.SettlingMentions.{none_in}
use Rattle.go_table_core.specs.Entries.{Entry, EntryLook, term_in, underlying_in, methods_in, declared_methods, members_keys, entry_keys}
use Rattle.go_table_core.specs.Laws.{LeadsTo, IsReached, AgreeFrom, ReachIsClosed}
use Rattle.go_table_core.proofs.Meanings.{alone, reached_itself}

one_of : (j k : DeclKey) → Contains (j ∷ []) k → k ≡ j
one_of j k at = elim (Contains-push_cases [] j k at) [ inl none ↦ absurd (none_in k none) | inr same ↦ sym same ]

-- a way that goes on from a type which it reaches
leads_on : (look : EntryLook) (mentioned : List DeclKey) (js : List DeclKey) (j : DeclKey) (e : Entry) (ks : List DeclKey) (k : DeclKey) → LeadsTo look mentioned js j → look j ≡ Some e → LeadsTo look (entry_keys e) ks k → LeadsTo look mentioned (js ++ j ∷ ks) k
leads_on look mentioned [] j e ks k h is rest = (h, (e, is, rest))
leads_on look mentioned (i ∷ is) j e ks k h at rest = (h.0, (h.1.0, h.1.1, leads_on look (entry_keys h.1.0) is j e ks k h.1.2 at rest))

reached_onward : (look : EntryLook) (t : Term) (j k : DeclKey) → IsReached look t j → IsReached look (Defined j) k → IsReached look t k
reached_onward look t j k h (ks, way) = by ks way
  where
    by : (ks : List DeclKey) → LeadsTo look (j ∷ []) ks k → IsReached look t k
    by [] way = subst (IsReached look t) (sym (one_of j k way)) h
    by (m ∷ ms) way =
        let is : look j ≡ Some way.1.0 = ap look (sym (one_of j m way.0)) ∙ way.1.1 in
        (h.0 ++ j ∷ ms, leads_on look (term_keys t) h.0 j way.1.0 ms k h.1 is way.1.2)

-- a way from more types
leads_from : (look : EntryLook) (some all : List DeclKey) (js : List DeclKey) (k : DeclKey) → ((i : DeclKey) → Contains some i → Contains all i) → LeadsTo look some js k → LeadsTo look all js k
leads_from look some all [] k more h = more k h
leads_from look some all (j ∷ js) k more h = (more j h.0, h.1)

leads_none : (look : EntryLook) (js : List DeclKey) (k : DeclKey) → LeadsTo look [] js k → ⊥
leads_none look [] k h = none_in k h
leads_none look (j ∷ js) k h = none_in j h.0

reached_under : (look : EntryLook) (t : Term) (k : DeclKey) → IsReached look (underlying_in look t) k → IsReached look t k
reached_under look NoType k h = h
reached_under look (Predeclared b) k h = h
reached_under look ErrorType k h = h
reached_under look (Defined j) k h = by (look j) refl h
  where
    by : (o : Option Entry) → look j ≡ o → IsReached look (term_in o) k → IsReached look (Defined j) k
    by None is h = absurd (leads_none look h.0 k h.1)
    by (Some e) is h = (j ∷ h.0, (alone j, (e, is, leads_from look (term_keys e.term) (entry_keys e) h.0 k (Contains-append_left (term_keys e.term) (members_keys e.methods)) h.1)))
reached_under look (PointerTo t) k h = h
reached_under look (StructOf path fs) k h = h
reached_under look (InterfaceOf path ms) k h = h

reached_methods : (look : EntryLook) (t : Term) (k : DeclKey) → Contains (members_keys (declared_methods look t)) k → IsReached look t k
reached_methods look NoType k h = absurd (none_in k h)
reached_methods look (Predeclared b) k h = absurd (none_in k h)
reached_methods look ErrorType k h = absurd (none_in k h)
reached_methods look (Defined j) k h = by (look j) refl h
  where
    by : (o : Option Entry) → look j ≡ o → Contains (members_keys (methods_in o)) k → IsReached look (Defined j) k
    by None is h = absurd (none_in k h)
    by (Some e) is h = (j ∷ [], (alone j, (e, is, Contains-append_right (term_keys e.term) (members_keys e.methods) k h)))
reached_methods look (PointerTo t) k h = absurd (none_in k h)
reached_methods look (StructOf path fs) k h = absurd (none_in k h)
reached_methods look (InterfaceOf path ms) k h = absurd (none_in k h)

-- tables that agree

-- two tables have the same of all to which ways lead from some types
abbrev AgreeAlong : EntryLook → EntryLook → List DeclKey → Type 0
AgreeAlong look other mentioned = (k : DeclKey) → (through : List DeclKey) × LeadsTo look mentioned through k → look k ≡ other k

agree_rest : (look other : EntryLook) (mentioned : List DeclKey) (j : DeclKey) (e : Entry) → AgreeAlong look other mentioned → Contains mentioned j → look j ≡ Some e → AgreeAlong look other (entry_keys e)
agree_rest look other mentioned j e agree at is k h = agree k (j ∷ h.0, (at, (e, is, h.1)))

leads_there : (look other : EntryLook) (mentioned : List DeclKey) (js : List DeclKey) (k : DeclKey) → AgreeAlong look other mentioned → LeadsTo look mentioned js k → LeadsTo other mentioned js k
leads_there look other mentioned [] k agree h = h
leads_there look other mentioned (j ∷ js) k agree h =
    let e = h.1.0 in
    (h.0, (e, sym (agree j ([], h.0)) ∙ h.1.1, leads_there look other (entry_keys e) js k (agree_rest look other mentioned j e agree h.0 h.1.1) h.1.2))

leads_here : (look other : EntryLook) (mentioned : List DeclKey) (js : List DeclKey) (k : DeclKey) → AgreeAlong look other mentioned → LeadsTo other mentioned js k → LeadsTo look mentioned js k
leads_here look other mentioned [] k agree h = h
leads_here look other mentioned (j ∷ js) k agree h =
    let e = h.1.0 in
    let is : look j ≡ Some e = agree j ([], h.0) ∙ h.1.1 in
    (h.0, (e, is, leads_here look other (entry_keys e) js k (agree_rest look other mentioned j e agree h.0 is) h.1.2))

reached_here : (look other : EntryLook) (t : Term) (k : DeclKey) → AgreeFrom look other t → IsReached other t k → IsReached look t k
reached_here look other t k agree h = (h.0, leads_here look other (term_keys t) h.0 k agree h.1)

reached_same : (look other : EntryLook) (t : Term) (k : DeclKey) → AgreeFrom look other t → IsReached look t k ↔ IsReached other t k
reached_same look other t k agree = ((λ h. (h.0, leads_there look other (term_keys t) h.0 k agree h.1)), reached_here look other t k agree)

pub reach_closed : ReachIsClosed
reach_closed = record {
  itself = reached_itself;
  onward = reached_onward;
  underlying = reached_under;
  methods = reached_methods;
  same = reached_same;
  turned = λ look other t agree k h. sym (agree k (reached_here look other t k agree h));
}
