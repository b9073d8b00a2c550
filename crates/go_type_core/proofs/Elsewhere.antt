-- The types of a package over what is known of others.
use Rattle.std.proofs.Common.{◌≡◌, ◌↔◌, ◌⊎◌, ◌<◌, ℕ, inl, inr, Bool, true, false, ◌||◌, List, [], ◌∷◌, Option, Some, None, if◌then◌else◌, refl, sym, ap, ◌∙◌, subst, arith}
use Rattle.std.specs.List.{Contains}
use Rattle.std.proofs.lemmas.List.Elements.{Contains-append_left, Contains-append_right, Contains-append_cases, Contains-push, Contains-push_cases}
use Rattle.go_term_core.specs.text_core.Text.{is_blank}
use Rattle.go_term_core.specs.decl_core.declared.keys.DeclKey.{DeclKey}
use Rattle.go_term_core.specs.declared.settling.kind.Kind.{Kind}
use Rattle.go_term_core.specs.declared.settling.kind.Kind.TheVariants as kinds
use Rattle.go_term_core.specs.settling.Settled.{kind_of_term, is_among_names, settled, defined_unless}
use Rattle.go_term_core.proofs.SettlingLocal.{settling_is_local, sign_alike}
use Rattle.go_term_core.specs.Terms.{Term, NoType, Predeclared, ErrorType, Defined, PointerTo, StructOf, InterfaceOf, term_keys, sign_keys}
use Rattle.go_table_core.specs.Entries.{Entry, Member, EntryLook, same_key, find_entry, term_in, members_keys, entry_keys}
use Rattle.go_table_core.specs.Methods.{has_field_before}
use Rattle.go_type_core.specs.declared.build.TypeFault.{TypeFault}
use Rattle.go_type_core.specs.Built.{base, NamesNothing, IsNothingBy, IsNoTypeHere, IsUnderBy, IsUnder, IsUnderlying, settled_member, unrepeated_methods, kept_over, IsEntry, AreEntries, IsBuilt}
use Rattle.go_type_core.specs.Laws.{or_far, together, kind_in, written_keys, AgreeOutside, BuildingIsLocal}
use Rattle.go_type_core.proofs.Nothings.{far_nothing, far_term}
use Rattle.go_table_core.proofs.Keys.{same_key_itself}
use Rattle.go_type_core.proofs.Unders.{kind_nothing, gone_nothing}
use Rattle.go_type_core.proofs.Together.{type_found, type_gone, far_known, kind_known}

-- entries of a list

pub first_in : {X : Type 0} (x : X) (xs : List X) → Contains (x ∷ xs) x
first_in x xs = Contains-append_left (x ∷ []) xs x (Contains-push [] x)

pub later_in : {X : Type 0} (y : X) (xs : List X) (x : X) → Contains xs x → Contains (y ∷ xs) x
later_in y xs x h = Contains-append_right (y ∷ []) xs x h

found_in_by : (w : Entry) (ws : List Entry) (k : DeclKey) (v : Entry) (b : Bool) → (find_entry ws k ≡ Some v → Contains ws v) → (if b then Some w else find_entry ws k) ≡ Some v → Contains (w ∷ ws) v
found_in_by w ws k v true rest f = (let wv : w ≡ v = cc in subst (λ x. Contains (w ∷ ws) x) wv (first_in w ws))
found_in_by w ws k v false rest f = later_in w ws v (rest f)

-- what is found stands there
pub found_in : (ws : List Entry) (k : DeclKey) (v : Entry) → find_entry ws k ≡ Some v → Contains ws v
found_in [] k v f = absurd (cc)
found_in (w ∷ ws) k v f = found_in_by w ws k v (same_key w.key k) (found_in ws k v) f

pub none_there : {X : Type 0} (x : X) → Contains [] x → ⊥
none_there x at = (let lt : at.0 < 0 = at.1 in omega arith)

pub one_there : {X : Type 0} (y x : X) → Contains (y ∷ []) x → y ≡ x
one_there y x at = elim (Contains-push_cases [] y x at) [ inl none ↦ absurd (none_there x none) | inr same ↦ same ]

-- what an entry mentions is mentioned by the list
pub keys_in : (ws : List Entry) (w : Entry) (j : DeclKey) → Contains ws w → Contains (entry_keys w) j → Contains (written_keys ws) j
keys_in [] w j at h = absurd (none_there w at)
keys_in (v ∷ ws) w j at h = elim (Contains-append_cases (v ∷ []) ws w at) [
  | inl here ↦ Contains-append_left (entry_keys v) (written_keys ws) j (subst (λ (x : Entry). Contains (entry_keys x) j) (sym (one_there v w here)) h)
  | inr there ↦ Contains-append_right (entry_keys v) (written_keys ws) j (keys_in ws w j there h)
]

found_by : (v w : Entry) (ws : List Entry) (b : Bool) → same_key v.key w.key ≡ b → ((x : Entry) × (find_entry ws w.key ≡ Some x)) → (x : Entry) × ((if b then Some v else find_entry ws w.key) ≡ Some x)
found_by v w ws true e rest = (v, refl)
found_by v w ws false e rest = rest

-- an entry of the list has a key that is found
pub key_found : (ws : List Entry) (w : Entry) → Contains ws w → (x : Entry) × (find_entry ws w.key ≡ Some x)
key_found [] w at = absurd (none_there w at)
key_found (v ∷ ws) w at = elim (Contains-append_cases (v ∷ []) ws w at) [
  | inl here ↦
      let same : same_key v.key w.key ≡ true = ap (λ (x : Entry). same_key v.key x.key) (sym (one_there v w here)) ∙ same_key_itself v.key in
      (v, ap (λ b. if b then Some v else find_entry ws w.key) same)
  | inr there ↦ found_by v w ws (same_key v.key w.key) refl (key_found ws w there)
]

-- a type without its stars mentions the same
base_keys : (t : Term) → term_keys (base t) ≡ term_keys t
base_keys NoType = refl
base_keys (Predeclared b) = refl
base_keys ErrorType = refl
base_keys (Defined k) = refl
base_keys (PointerTo t) = base_keys t
base_keys (StructOf path fs) = refl
base_keys (InterfaceOf path ms) = refl

base_mentions : (t : Term) (k : DeclKey) → base t ≡ Defined k → Contains (term_keys t) k
base_mentions t k e = subst (λ ks. Contains ks k) (ap term_keys (sym e) ∙ base_keys t) (Contains-push [] k)

-- methods, by kinds that agree

abbrev SameKinds : (DeclKey → Kind) → (DeclKey → Kind) → List DeclKey → Type 0
SameKinds kind other keys = (k : DeclKey) → Contains keys k → kind k ≡ other k

kept_alike : (kind other : DeclKey → Kind) (path : List ℕ) (u : Term) (seen : List (List ℕ)) (ms : List Member) → SameKinds kind other (members_keys ms) → unrepeated_methods kind path u seen ms ≡ unrepeated_methods other path u seen ms
kept_alike kind other path u seen [] same = refl
kept_alike kind other path u seen (m ∷ ms) same =
    let head : settled_member kind m ≡ settled_member other m = ap (λ g. record { name = m.name; place = m.place; pointer = m.pointer; sign = g }) (sign_alike kind other m.sign (λ k at. same k (Contains-append_left (sign_keys m.sign) (members_keys ms) k at))) in
    let more : SameKinds kind other (members_keys ms) = λ k at. same k (Contains-append_right (sign_keys m.sign) (members_keys ms) k at) in
    let one = kept_alike kind other path u seen ms more in
    let two = kept_alike kind other path u (m.name ∷ seen) ms more in
    λ i. if is_blank m.name || (is_among_names seen m.name || has_field_before path u m) then one i else head i ∷ two i

kept_over_alike : (n : Kind) (kind other : DeclKey → Kind) (path : List ℕ) (u : Term) (ms : List Member) → SameKinds kind other (members_keys ms) → kept_over n kind path u ms ≡ kept_over n other path u ms
kept_over_alike kinds.Nothing kind other path u ms same = kept_alike kind other path u [] ms same
kept_over_alike kinds.Pointer kind other path u ms same = refl
kept_over_alike kinds.Interface kind other path u ms same = refl
kept_over_alike kinds.Other kind other path u ms same = kept_alike kind other path u [] ms same

-- chains, from one look-up to another

module _ (written : List Entry) (one two : EntryLook) (kind other : DeclKey → Kind) (agree : AgreeOutside written one two) (same : SameKinds kind other (written_keys written)) where
  -- the two have the same of the type that a type names, where it is of another package
  abbrev AgreeAt : Term → Type 0
  AgreeAt t = (k : DeclKey) → base t ≡ Defined k → find_entry written k ≡ None → one k ≡ two k

  agree_at : (w : Entry) → Contains written w → AgreeAt w.term
  agree_at w at k e gone = agree k (keys_in written w k at (Contains-append_left (term_keys w.term) (members_keys w.methods) k (base_mentions w.term k e))) gone

  agree_found : (k : DeclKey) (v : Entry) → find_entry written k ≡ Some v → AgreeAt (Defined k)
  agree_found k v f j e gone =
      let kj : k ≡ j = cc in
      let both : Some v ≡ None = sym f ∙ (ap (find_entry written) kj ∙ gone) in
      absurd (cc)

  far_moves : (k : DeclKey) → one k ≡ two k → (one k ≡ None) ⊎ ((e : Entry) × (one k ≡ Some e) × (e.term ≡ NoType)) → (two k ≡ None) ⊎ ((e : Entry) × (two k ≡ Some e) × (e.term ≡ NoType))
  far_moves k e h = elim h [ inl none ↦ inl (sym e ∙ none) | inr x ↦ inr (x.0, sym e ∙ x.1, x.2) ]

  names_move : (k : DeclKey) → (find_entry written k ≡ None → one k ≡ two k) → NamesNothing written one k → NamesNothing written two k
  names_move k at h = elim h [ inl loop ↦ inl loop | inr gone ↦ inr (gone.0, far_moves k (at gone.0) gone.1) ]

  nothing_moves : (t : Term) (through : List DeclKey) → AgreeAt t → IsNothingBy written one t through → IsNothingBy written two t through
  nothing_moves t [] at h = elim h [ inl none ↦ inl none | inr x ↦ inr (x.0, x.1, names_move x.0 (at x.0 x.1) x.2) ]
  nothing_moves t (k ∷ ks) at h =
      let w = h.1.0 in
      (h.0, (w, h.1.1, nothing_moves w.term ks (agree_at w (found_in written k w h.1.1)) h.1.2))

  name_nothing_moves : (k : DeclKey) (v : Entry) → find_entry written k ≡ Some v → IsNoTypeHere written one (Defined k) → IsNoTypeHere written two (Defined k)
  name_nothing_moves k v f h = (h.0, nothing_moves (Defined k) h.0 (agree_found k v f) h.1)

  under_moves : (t u : Term) (through : List DeclKey) → AgreeAt t → settled kind t ≡ settled other t → IsUnderBy written one kind t through u → IsUnderBy written two other t through u
  under_moves t u [] at settles h = elim h [
    | inl plain ↦ inl (plain.0, plain.1 ∙ settles)
    | inr x ↦ inr (x.0, x.1, x.2, x.3, sym (at x.0 (ap base x.2) x.3) ∙ x.4, x.5)
  ]
  under_moves t u (k ∷ ks) at settles h =
      let w = h.1.0 in
      let here = found_in written k w h.1.1 in
      let alike = settling_is_local kind other w.term (λ j m. same j (keys_in written w j here (Contains-append_left (term_keys w.term) (members_keys w.methods) j m))) in
      (h.0, (w, h.1.1, under_moves w.term u ks (agree_at w here) alike h.1.2))

  name_under_moves : (k : DeclKey) (v : Entry) (u : Term) → find_entry written k ≡ Some v → kind k ≡ other k → IsUnder written one kind (Defined k) u → IsUnder written two other (Defined k) u
  name_under_moves k v u f e h = (h.0, under_moves (Defined k) u h.0 (agree_found k v f) (ap (λ n. defined_unless n k) e) h.1)

-- the types of a package over another look-up

module _ (far other : EntryLook) (written types : List Entry) (faults : List TypeFault) (agree : AgreeOutside written far other) (a : IsBuilt far written types faults) where
  abbrev kind' : DeclKey → Kind
  kind' = kind_in (together types other)

  back : AgreeOutside written other far
  back k at gone = sym (agree k at gone)

  own_kind : (k : DeclKey) (w : Entry) → find_entry written k ≡ Some w → a.kind k ≡ kind' k
  own_kind k w f =
      let e = type_found written far a.kind written types k w a.entries f in
      kind_known far written types faults a k ∙ (ap (λ o. kind_of_term (term_in (or_far o (far k)))) e.1 ∙ sym (ap (λ o. kind_of_term (term_in (or_far o (other k)))) e.1))

  gone_kind : (k : DeclKey) → find_entry written k ≡ None → kind' k ≡ kind_of_term (term_in (other k))
  gone_kind k f = ap (λ o. kind_of_term (term_in (or_far o (other k)))) (type_gone written far a.kind written types k a.entries f)

  kind_by_cases : (k : DeclKey) (o : Option Entry) → find_entry written k ≡ o → Contains (written_keys written) k → a.kind k ≡ kind' k
  kind_by_cases k (Some w) f at = own_kind k w f
  kind_by_cases k None f at =
      kind_known far written types faults a k
      ∙ (ap (λ o. kind_of_term (term_in o)) (far_known far written types faults a k f) ∙ (ap (λ o. kind_of_term (term_in o)) (agree k at f) ∙ sym (gone_kind k f)))

  same_kinds : SameKinds a.kind kind' (written_keys written)
  same_kinds k at = kind_by_cases k (find_entry written k) refl at

  kinds_back : SameKinds kind' a.kind (written_keys written)
  kinds_back k at = sym (same_kinds k at)

  nothing_on : (k : DeclKey) (w : Entry) → find_entry written k ≡ Some w → IsNoTypeHere written far (Defined k) → IsNoTypeHere written other (Defined k)
  nothing_on = name_nothing_moves written far other a.kind kind' agree same_kinds

  nothing_back : (k : DeclKey) (w : Entry) → find_entry written k ≡ Some w → IsNoTypeHere written other (Defined k) → IsNoTypeHere written far (Defined k)
  nothing_back = name_nothing_moves written other far kind' a.kind back kinds_back

  underlying_on : (k : DeclKey) (w : Entry) (u : Term) → find_entry written k ≡ Some w → IsUnderlying written far a.kind k u → IsUnderlying written other kind' k u
  underlying_on k w u f h = elim h [
    | inl none ↦ inl (nothing_on k w f none.0, none.1)
    | inr some ↦ inr ((λ n. some.0 (nothing_back k w f n)), name_under_moves written far other a.kind kind' agree same_kinds k w u f (own_kind k w f) some.1)
  ]

  underlying_back : (k : DeclKey) (w : Entry) (u : Term) → find_entry written k ≡ Some w → IsUnderlying written other kind' k u → IsUnderlying written far a.kind k u
  underlying_back k w u f h = elim h [
    | inl none ↦ inl (nothing_back k w f none.0, none.1)
    | inr some ↦ inr ((λ n. some.0 (nothing_on k w f n)), name_under_moves written other far kind' a.kind back kinds_back k w u f (sym (own_kind k w f)) some.1)
  ]

  nothing_by : (k : DeclKey) (o : Option Entry) → find_entry written k ≡ o → (kind' k ≡ kinds.Nothing) ↔ IsNoTypeHere written other (Defined k)
  nothing_by k (Some w) f = (
    (λ h. nothing_on k w f ((a.nothing_is k).0 (own_kind k w f ∙ h))),
    (λ n. sym (own_kind k w f) ∙ (a.nothing_is k).1 (nothing_back k w f n)),
  )
  nothing_by k None f = (
    (λ h. ([], inr (k, refl, inr (f, far_nothing other k (kind_nothing (term_in (other k)) (sym (gone_kind k f) ∙ h)))))),
    (λ n. gone_kind k f ∙ ap kind_of_term (far_term other k (gone_nothing written other k f n))),
  )

  kind_by : (k : DeclKey) (u : Term) (o : Option Entry) → find_entry written k ≡ o → IsUnderlying written other kind' k u → kind' k ≡ kind_of_term u
  kind_by k u (Some w) f h = sym (own_kind k w f) ∙ a.kinds_are k u (underlying_back k w u f h)
  kind_by k u None f h = elim h [
    | inl none ↦ (nothing_by k None f).1 none.0 ∙ ap kind_of_term (sym none.1)
    | inr some ↦ gone_kind k f ∙ ap kind_of_term (led some.1.0 some.1.1)
  ]
    where
      led : (through : List DeclKey) → IsUnderBy written other kind' (Defined k) through u → term_in (other k) ≡ u
      led [] x = elim x [
        | inl plain ↦ absurd plain.0
        | inr y ↦
            let both : Defined k ≡ Defined y.0 = y.2 in
            let ky : k ≡ y.0 = cc in
            ap term_in (ap other ky ∙ y.4) ∙ sym y.5
      ]
      led (j ∷ js) x =
          let both : Defined k ≡ Defined j = x.0 in
          let kj : k ≡ j = cc in
          let clash : None ≡ Some x.1.0 = sym f ∙ (ap (find_entry written) kj ∙ x.1.1) in
          absurd (cc)

  entry_on : (w e : Entry) → Contains written w → IsEntry written far a.kind w e → IsEntry written other kind' w e
  entry_on w e at h =
      let x = key_found written w at in
      record {
        key = h.key;
        name = h.name;
        term = underlying_on w.key x.0 e.term x.1 h.term;
        methods = h.methods ∙ kept_over_alike (kind_of_term e.term) a.kind kind' w.key.path e.term w.methods (λ j m. same_kinds j (keys_in written w j at (Contains-append_right (term_keys w.term) (members_keys w.methods) j m)));
      }

  entries_on : (ws es : List Entry) → ((w : Entry) → Contains ws w → Contains written w) → AreEntries written far a.kind ws es → AreEntries written other kind' ws es
  entries_on [] [] within h = tt
  entries_on [] (e ∷ es) within h = absurd h
  entries_on (w ∷ ws) [] within h = absurd h
  entries_on (w ∷ ws) (e ∷ es) within h = (entry_on w e (within w (first_in w ws)) h.0, entries_on ws es (λ v at. within v (later_in w ws v at)) h.1)

  pub built_on : IsBuilt other written types faults
  built_on = record {
    kind = kind';
    kinds_are = λ k u h. kind_by k u (find_entry written k) refl h;
    nothing_is = λ k. nothing_by k (find_entry written k) refl;
    entries = entries_on written types (λ w at. at) a.entries;
    looped = a.looped;
    looped_are = a.looped_are;
    faults_are = a.faults_are;
  }

pub building_is_local : BuildingIsLocal
building_is_local far other written types faults agree a = built_on far other written types faults agree a
