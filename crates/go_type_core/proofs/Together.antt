-- The types of a package and those of others as one look-up.
use Rattle.std.proofs.Common.{◌≡◌, inl, inr, Bool, true, false, List, [], ◌∷◌, Option, Some, None, if◌then◌else◌, refl, sym, ap, ◌∙◌, subst}
use Rattle.go_term_core.specs.decl_core.declared.keys.DeclKey.{DeclKey}
use Rattle.go_term_core.specs.declared.settling.kind.Kind.{Kind}
use Rattle.go_term_core.specs.declared.settling.kind.Kind.TheVariants as kinds
use Rattle.go_term_core.specs.settling.Settled.{kind_of_term, settled, pointer_to, defined_unless}
use Rattle.go_term_core.specs.Terms.{Term, NoType, Predeclared, ErrorType, Defined, PointerTo, StructOf, InterfaceOf}
use Rattle.go_table_core.specs.Entries.{Entry, EntryLook, same_key, find_entry, term_in, underlying_in, IsUnnamed}
use Rattle.go_type_core.specs.declared.build.TypeFault.{TypeFault}
use Rattle.go_type_core.specs.Built.{IsLooped, IsNothingBy, IsNoTypeHere, IsUnderBy, IsUnder, IsUnderlying, IsEntry, AreEntries, IsBuilt}
use Rattle.go_type_core.specs.Laws.{or_far, together, kind_in, UnderlyingAsDefined}
use Rattle.go_type_core.proofs.Keyed.{at_found}
use Rattle.go_type_core.proofs.Nothings.{far_term, looped_found}
use Rattle.go_type_core.proofs.Unders.{under_one, nothing_settled, some_or_none, gone_nothing}

-- entries by their keys

found_pair : (written : List Entry) (far : EntryLook) (kind : DeclKey → Kind) (v e : Entry) (ws es : List Entry) (k : DeclKey) (w : Entry) (b : Bool) → same_key v.key k ≡ b → IsEntry written far kind v e
    → (find_entry ws k ≡ Some w → (x : Entry) × (find_entry es k ≡ Some x) × IsEntry written far kind w x) → (if b then Some v else find_entry ws k) ≡ Some w → (x : Entry) × (find_entry (e ∷ es) k ≡ Some x) × IsEntry written far kind w x
found_pair written far kind v e ws es k w true t is rest f =
    let vw : v ≡ w = cc in
    (e, ap (λ b. if b then Some e else find_entry es k) (ap (λ j. same_key j k) is.key ∙ t), subst (λ x. IsEntry written far kind x e) vw is)
found_pair written far kind v e ws es k w false t is rest f =
    let r = rest f in
    (r.0, ap (λ b. if b then Some e else find_entry es k) (ap (λ j. same_key j k) is.key ∙ t) ∙ r.1, r.2)

pub type_found : (written : List Entry) (far : EntryLook) (kind : DeclKey → Kind) (ws es : List Entry) (k : DeclKey) (w : Entry) → AreEntries written far kind ws es → find_entry ws k ≡ Some w → (e : Entry) × (find_entry es k ≡ Some e) × IsEntry written far kind w e
type_found written far kind [] es k w h f = absurd (cc)
type_found written far kind (v ∷ ws) [] k w h f = absurd h
type_found written far kind (v ∷ ws) (e ∷ es) k w h f = found_pair written far kind v e ws es k w (same_key v.key k) refl h.0 (type_found written far kind ws es k w h.1) f

gone_pair : (written : List Entry) (far : EntryLook) (kind : DeclKey → Kind) (v e : Entry) (ws es : List Entry) (k : DeclKey) (b : Bool) → same_key v.key k ≡ b → IsEntry written far kind v e
    → (find_entry ws k ≡ None → find_entry es k ≡ None) → (if b then Some v else find_entry ws k) ≡ None → find_entry (e ∷ es) k ≡ None
gone_pair written far kind v e ws es k true t is rest f = absurd (cc)
gone_pair written far kind v e ws es k false t is rest f = ap (λ b. if b then Some e else find_entry es k) (ap (λ j. same_key j k) is.key ∙ t) ∙ rest f

pub type_gone : (written : List Entry) (far : EntryLook) (kind : DeclKey → Kind) (ws es : List Entry) (k : DeclKey) → AreEntries written far kind ws es → find_entry ws k ≡ None → find_entry es k ≡ None
type_gone written far kind [] [] k h f = refl
type_gone written far kind [] (e ∷ es) k h f = absurd h
type_gone written far kind (v ∷ ws) [] k h f = absurd h
type_gone written far kind (v ∷ ws) (e ∷ es) k h f = gone_pair written far kind v e ws es k (same_key v.key k) refl h.0 (type_gone written far kind ws es k h.1) f

-- what settling leaves of names and stars

unless_some : (n : Kind) (k : DeclKey) → (n ≡ kinds.Nothing → ⊥) → defined_unless n k ≡ Defined k
unless_some kinds.Nothing k some = absurd (some refl)
unless_some kinds.Pointer k some = refl
unless_some kinds.Interface k some = refl
unless_some kinds.Other k some = refl

pointer_under : (look : EntryLook) (t : Term) → underlying_in look (pointer_to t) ≡ pointer_to t
pointer_under look NoType = refl
pointer_under look (Predeclared b) = refl
pointer_under look ErrorType = refl
pointer_under look (Defined k) = refl
pointer_under look (PointerTo t) = refl
pointer_under look (StructOf path fs) = refl
pointer_under look (InterfaceOf path ms) = refl

plain_under : (look : EntryLook) (kind : DeclKey → Kind) (t : Term) → IsUnnamed t → underlying_in look (settled kind t) ≡ settled kind t
plain_under look kind NoType h = refl
plain_under look kind (Predeclared b) h = refl
plain_under look kind ErrorType h = refl
plain_under look kind (Defined k) h = absurd h
plain_under look kind (PointerTo t) h = pointer_under look (settled kind t)
plain_under look kind (StructOf path fs) h = refl
plain_under look kind (InterfaceOf path ms) h = refl

module _ (far : EntryLook) (written types : List Entry) (faults : List TypeFault) (a : IsBuilt far written types faults) where
  abbrev known : EntryLook
  known = together types far

  pub own_key : (k : DeclKey) (w : Entry) → find_entry written k ≡ Some w → w.key ≡ k
  own_key k w f = (at_found written k w f).1.key

  -- what is known of a type of the package
  pub own_known : (k : DeclKey) (w : Entry) → find_entry written k ≡ Some w → (e : Entry) × (known k ≡ Some e) × IsUnderlying written far a.kind k e.term
  own_known k w f =
      let e = type_found written far a.kind written types k w a.entries f in
      (e.0, ap (λ o. or_far o (far k)) e.1, subst (λ j. IsUnderlying written far a.kind j e.0.term) (own_key k w f) e.2.term)

  pub far_known : (k : DeclKey) → find_entry written k ≡ None → known k ≡ far k
  far_known k f = ap (λ o. or_far o (far k)) (type_gone written far a.kind written types k a.entries f)

  far_kind : (k : DeclKey) (o : Option Entry) → find_entry written k ≡ None → far k ≡ o → a.kind k ≡ kind_of_term (term_in o)
  far_kind k None gone h = (a.nothing_is k).1 ([], inr (k, refl, inr (gone, inl h)))
  far_kind k (Some e) gone h = elim (some_or_none e.term) [
    | inl none ↦ (a.nothing_is k).1 ([], inr (k, refl, inr (gone, inr (e, h, none)))) ∙ ap kind_of_term (sym none)
    | inr some ↦
        let not : IsNoTypeHere written far (Defined k) → ⊥ = λ n. some (ap term_in (sym h) ∙ far_term far k (gone_nothing written far k gone n)) in
        a.kinds_are k e.term (inr (not, ([], inr (k, e, refl, gone, h, refl))))
  ]

  kind_cases : (k : DeclKey) (o : Option Entry) → find_entry written k ≡ o → a.kind k ≡ kind_in known k
  kind_cases k None f = far_kind k (far k) f refl ∙ ap (λ o. kind_of_term (term_in o)) (sym (far_known k f))
  kind_cases k (Some w) f =
      let e = own_known k w f in
      a.kinds_are k e.0.term e.2 ∙ ap (λ o. kind_of_term (term_in o)) (sym e.1)

  -- kinds are those of what is known
  pub kind_known : (k : DeclKey) → a.kind k ≡ kind_in known k
  kind_known k = kind_cases k (find_entry written k) refl

  -- what is nothing settles to none
  settled_none : (t : Term) (through : List DeclKey) → IsNothingBy written far t through → settled a.kind t ≡ NoType
  settled_none t [] h = elim h [
    | inl none ↦ nothing_settled a.kind t (inl none)
    | inr x ↦ nothing_settled a.kind t (inr (x.0, x.1, (a.nothing_is x.0).1 ([], inr (x.0, refl, x.2))))
  ]
  settled_none t (k ∷ ks) h = nothing_settled a.kind t (inr (k, h.0, (a.nothing_is k).1 (k ∷ ks, (refl, h.1))))

  -- a type that is none, and does not reach itself, is defined by what is none
  defined_none : (k : DeclKey) (w : Entry) (through : List DeclKey) → find_entry written k ≡ Some w → (IsLooped written k → ⊥) → IsNothingBy written far (Defined k) through → settled a.kind w.term ≡ NoType
  defined_none k w [] f apart h = elim h [
    | inl none ↦ absurd (cc)
    | inr x ↦
        let both : Defined k ≡ Defined x.0 = x.1 in
        let kx : k ≡ x.0 = cc in
        elim x.2 [
          | inl loop ↦ absurd (apart (subst (IsLooped written) (sym kx) loop))
          | inr gone ↦ (let two : Some w ≡ None = sym f ∙ (ap (find_entry written) kx ∙ gone.0) in absurd (cc))
        ]
  ]
  defined_none k w (j ∷ js) f apart h =
      let both : Defined k ≡ Defined j = h.0 in
      let kj : k ≡ j = cc in
      let two : Some h.1.0 ≡ Some w = sym h.1.1 ∙ (ap (find_entry written) (sym kj) ∙ f) in
      let vw : h.1.0 ≡ w = cc in
      settled_none w.term js (subst (λ (x : Entry). IsNothingBy written far x.term js) vw h.1.2)

  -- the underlying type of a name, by what is known of it
  name_under : (j : DeclKey) (u : Term) (o : Option Entry) → find_entry written j ≡ o → (IsNoTypeHere written far (Defined j) → ⊥) → IsUnder written far a.kind (Defined j) u → u ≡ term_in (known j)
  name_under j u (Some v) f some (through, by) =
      let e = own_known j v f in
      elim e.2 [
        | inl none ↦ absurd (some none.0)
        | inr x ↦ under_one written far a.kind (Defined j) u e.0.term through x.1.0 by x.1.1 ∙ ap term_in (sym e.1)
      ]
  name_under j u None f some ([], by) = elim by [
    | inl plain ↦ absurd plain.0
    | inr x ↦
        let both : Defined j ≡ Defined x.0 = x.2 in
        let jx : j ≡ x.0 = cc in
        x.5 ∙ sym (ap term_in (far_known j f ∙ (ap far jx ∙ x.4)))
  ]
  name_under j u None f some (k ∷ ks, by) =
      let both : Defined j ≡ Defined k = by.0 in
      let jk : j ≡ k = cc in
      let two : None ≡ Some by.1.0 = sym f ∙ (ap (find_entry written) jk ∙ by.1.1) in
      absurd (cc)

  -- what a type that is no name leads to
  plain_or : (t u : Term) → IsUnnamed t → IsUnderBy written far a.kind t [] u → u ≡ underlying_in known (settled a.kind t)
  plain_or t u plain h = elim h [
    | inl x ↦ x.1 ∙ sym (plain_under known a.kind t plain)
    | inr x ↦ absurd (subst IsUnnamed x.2 plain)
  ]

  -- and that of any type that is one
  term_under : (t u : Term) (through : List DeclKey) → (IsNoTypeHere written far t → ⊥) → IsUnderBy written far a.kind t through u → u ≡ underlying_in known (settled a.kind t)
  term_under (Defined j) u through some h =
      let here : (a.kind j ≡ kinds.Nothing) → ⊥ = λ none. some ((a.nothing_is j).0 none) in
      name_under j u (find_entry written j) refl some (through, h) ∙ sym (ap (underlying_in known) (unless_some (a.kind j) j here))
  term_under NoType u through some h = absurd (some ([], inl refl))
  term_under (Predeclared b) u [] some h = plain_or (Predeclared b) u tt h
  term_under (Predeclared b) u (k ∷ ks) some h = absurd (let both = h.0 in (cc))
  term_under ErrorType u [] some h = plain_or ErrorType u tt h
  term_under ErrorType u (k ∷ ks) some h = absurd (let both = h.0 in (cc))
  term_under (PointerTo t) u [] some h = plain_or (PointerTo t) u tt h
  term_under (PointerTo t) u (k ∷ ks) some h = absurd (let both = h.0 in (cc))
  term_under (StructOf path fs) u [] some h = plain_or (StructOf path fs) u tt h
  term_under (StructOf path fs) u (k ∷ ks) some h = absurd (let both = h.0 in (cc))
  term_under (InterfaceOf path ms) u [] some h = plain_or (InterfaceOf path ms) u tt h
  term_under (InterfaceOf path ms) u (k ∷ ks) some h = absurd (let both = h.0 in (cc))

  -- what a declared type comes to
  as_defined : (k : DeclKey) (w : Entry) (u : Term) → find_entry written k ≡ Some w → (IsLooped written k → ⊥) → IsUnderlying written far a.kind k u → u ≡ underlying_in known (settled a.kind w.term)
  as_defined k w u f apart h = elim h [
    | inl none ↦ none.1 ∙ sym (ap (underlying_in known) (defined_none k w none.0.0 f apart none.0.1))
    | inr some ↦ by some.1.0 some.0 some.1.1
  ]
    where
      by : (through : List DeclKey) → (IsNoTypeHere written far (Defined k) → ⊥) → IsUnderBy written far a.kind (Defined k) through u → u ≡ underlying_in known (settled a.kind w.term)
      by [] some x = elim x [
        | inl plain ↦ absurd plain.0
        | inr y ↦
            let both : Defined k ≡ Defined y.0 = y.2 in
            let ky : k ≡ y.0 = cc in
            let two : Some w ≡ None = sym f ∙ (ap (find_entry written) ky ∙ y.3) in
            absurd (cc)
      ]
      by (j ∷ js) some x =
          let both : Defined k ≡ Defined j = x.0 in
          let kj : k ≡ j = cc in
          let two : Some x.1.0 ≡ Some w = sym x.1.1 ∙ (ap (find_entry written) (sym kj) ∙ f) in
          let vw : x.1.0 ≡ w = cc in
          term_under w.term u js (λ n. some (k ∷ n.0, (refl, (w, f, n.1)))) (subst (λ (y : Entry). IsUnderBy written far a.kind y.term js u) vw x.1.2)

  pub defined_as : (k : DeclKey) (w : Entry) → find_entry written k ≡ Some w → (IsLooped written k → ⊥) → underlying_in known (Defined k) ≡ underlying_in known (settled (kind_in known) w.term)
  defined_as k w f apart =
      let e = own_known k w f in
      ap term_in e.1 ∙ (as_defined k w e.0.term f apart e.2 ∙ ap (λ (kind : DeclKey → Kind). underlying_in known (settled kind w.term)) (λ i j. kind_known j i))

  pub looped_none : (k : DeclKey) → IsLooped written k → underlying_in known (Defined k) ≡ NoType
  looped_none k loop =
      let w = looped_found written k loop in
      let e = own_known k w.0 w.1 in
      ap term_in e.1 ∙ elim e.2 [ inl none ↦ none.1 | inr some ↦ absurd (some.0 ([], inr (k, refl, inl loop))) ]

pub underlying_as_defined : UnderlyingAsDefined
underlying_as_defined = record {
  defined = λ far written types faults a k w f apart. defined_as far written types faults a k w f apart;
  looped = λ far written types faults a k loop. looped_none far written types faults a k loop;
}
