-- Kinds and underlying types, by the ends of chains of names.
use Rattle.std.proofs.Common.{◌≡◌, ℕ, zero, suc, ◌<◌, ◌⊎◌, inl, inr, ◌↔◌, Bool, true, false, List, [], ◌∷◌, Option, Some, None, length, get_or, refl, sym, ap, ◌∙◌, subst, arith}
use Rattle.std.specs.Prelude.{slice_get}
use Rattle.std.specs.List.{Contains}
use Rattle.std.proofs.lemmas.Option.{slice_get_within, slice_get-get_or}
use Rattle.go_term_core.specs.decl_core.declared.keys.DeclKey.{DeclKey}
use Rattle.go_digraph_core.specs.chain.Chains.{ChainLeads, EndsAt, AreEnds}
use Rattle.go_term_core.specs.declared.settling.kind.Kind.{Kind}
use Rattle.go_term_core.specs.declared.settling.kind.Kind.TheVariants as kinds
use Rattle.go_term_core.specs.settling.Settled.{kind_of_term, settled, pointer_to, defined_unless}
use Rattle.go_term_core.specs.Terms.{Term, NoType, Predeclared, ErrorType, Defined, PointerTo, StructOf, InterfaceOf}
use Rattle.go_table_core.specs.Entries.{Entry, EntryLook, find_entry, term_in, IsUnnamed}
use Rattle.go_type_core.specs.Built.{AreLoopedEntries, base, direct_keys, NamesNothing, IsNothingBy, IsNoTypeHere, IsUnderBy, IsUnder, IsUnderlying, AreKinds}
use Rattle.go_type_core.specs.mirrors.Numbers.{keys_of, number_of, term_at, IsTable}
use Rattle.go_type_core.specs.mirrors.Edges.{Falls}
use Rattle.go_type_core.specs.mirrors.Chained.{named_number, next_named, root_kind, root_term, number_or, root_at, kind_unless, term_unless, kind_at, under_at, kind_by, known_kind, AreNothing}
use Rattle.go_type_core.proofs.Keyed.{at_found, at_place, not_found, not_numbered, Apart, table_at}
use Rattle.go_type_core.proofs.Looping.{contains_first}
use Rattle.go_type_core.proofs.Nothings.{step_of, unnamed_of, stands_by, ends_here, ends_on, FarNothing, far_nothing, far_term, nothing_by_base, looped_found}

-- underlying types are one

key_same : (k j : DeclKey) (t : Term) → t ≡ Defined k → t ≡ Defined j → k ≡ j
key_same k j t a b = (let e : Defined k ≡ Defined j = sym a ∙ b in cc)

plain_named : (t : Term) (k : DeclKey) → t ≡ Defined k → IsUnnamed t → ⊥
plain_named t k e p = subst IsUnnamed e p

-- two types that one type leads to, over two settlings: what relates each type to itself, and what one is settled to, relates them
pub under_pair : (written : List Entry) (far : EntryLook) (kind other : DeclKey → Kind) (C : Term → Term → Type 0) → ((t : Term) → C t t) → ((t : Term) → C (settled kind t) (settled other t)) → (t u v : Term) (p q : List DeclKey) → IsUnderBy written far kind t p u → IsUnderBy written far other t q v → C u v
under_pair written far kind other C same settles t u v [] [] a b = elim a [
  | inl x ↦ elim b [
    | inl y ↦ subst (λ z. C z v) (sym x.1) (subst (λ z. C (settled kind t) z) (sym y.1) (settles t))
    | inr y ↦ absurd (plain_named t y.0 y.2 x.0)
  ]
  | inr x ↦ elim b [
    | inl y ↦ absurd (plain_named t x.0 x.2 y.0)
    | inr y ↦ (let k : x.0 ≡ y.0 = key_same x.0 y.0 t x.2 y.2 in
        let e : Some x.1 ≡ Some y.1 = sym x.4 ∙ (ap far k ∙ y.4) in
        let f : x.1 ≡ y.1 = cc in
        let g : u ≡ v = x.5 ∙ (ap (λ (n : Entry). n.term) f ∙ sym y.5) in
        subst (λ z. C u z) g (same u))
  ]
]
under_pair written far kind other C same settles t u v [] (k ∷ ks) a b = elim a [
  | inl x ↦ absurd (plain_named t k b.0 x.0)
  | inr x ↦ (let e : x.0 ≡ k = key_same x.0 k t x.2 b.0 in let f : None ≡ Some b.1.0 = sym x.3 ∙ (ap (find_entry written) e ∙ b.1.1) in absurd (cc))
]
under_pair written far kind other C same settles t u v (k ∷ ks) [] a b = elim b [
  | inl y ↦ absurd (plain_named t k a.0 y.0)
  | inr y ↦ (let e : y.0 ≡ k = key_same y.0 k t y.2 a.0 in let f : None ≡ Some a.1.0 = sym y.3 ∙ (ap (find_entry written) e ∙ a.1.1) in absurd (cc))
]
under_pair written far kind other C same settles t u v (k ∷ ks) (j ∷ js) a b =
    let e : k ≡ j = key_same k j t a.0 b.0 in
    let f : Some a.1.0 ≡ Some b.1.0 = sym a.1.1 ∙ (ap (find_entry written) e ∙ b.1.1) in
    let g : b.1.0 ≡ a.1.0 = cc in
    under_pair written far kind other C same settles a.1.0.term u v ks js a.1.2 (subst (λ (x : Entry). IsUnderBy written far other x.term js v) g b.1.2)

pub under_one : (written : List Entry) (far : EntryLook) (kind : DeclKey → Kind) (t u v : Term) (p q : List DeclKey) → IsUnderBy written far kind t p u → IsUnderBy written far kind t q v → u ≡ v
under_one written far kind t u v p q a b = under_pair written far kind kind (λ x y. x ≡ y) (λ x. refl) (λ x. refl) t u v p q a b

-- what settling leaves of what is nothing

pub kind_nothing : (t : Term) → kind_of_term t ≡ kinds.Nothing → t ≡ NoType
kind_nothing NoType h = refl
kind_nothing (Predeclared b) h = absurd (cc)
kind_nothing ErrorType h = absurd (cc)
kind_nothing (Defined k) h = absurd (cc)
kind_nothing (PointerTo t) h = absurd (cc)
kind_nothing (StructOf path fs) h = absurd (cc)
kind_nothing (InterfaceOf path ms) h = absurd (cc)

unless_nothing : (n : Kind) (k : DeclKey) → defined_unless n k ≡ NoType → n ≡ kinds.Nothing
unless_nothing kinds.Nothing k h = refl
unless_nothing kinds.Pointer k h = absurd (cc)
unless_nothing kinds.Interface k h = absurd (cc)
unless_nothing kinds.Other k h = absurd (cc)

unless_kind : (n : Kind) (k : DeclKey) → (n ≡ kinds.Nothing → ⊥) → kind_of_term (defined_unless n k) ≡ kinds.Other
unless_kind kinds.Nothing k h = absurd (h refl)
unless_kind kinds.Pointer k h = refl
unless_kind kinds.Interface k h = refl
unless_kind kinds.Other k h = refl

kind_or_none : (n : Kind) → (n ≡ kinds.Nothing) ⊎ (n ≡ kinds.Nothing → ⊥)
kind_or_none kinds.Nothing = inl refl
kind_or_none kinds.Pointer = inr (λ h. cc)
kind_or_none kinds.Interface = inr (λ h. cc)
kind_or_none kinds.Other = inr (λ h. cc)

unless_alike : (n m : Kind) (k : DeclKey) → (n ≡ kinds.Nothing) ↔ (m ≡ kinds.Nothing) → kind_of_term (defined_unless n k) ≡ kind_of_term (defined_unless m k)
unless_alike n m k alike = elim (kind_or_none n) [
  | inl none ↦ ap (λ x. kind_of_term (defined_unless x k)) (none ∙ sym (alike.0 none))
  | inr some ↦ unless_kind n k some ∙ sym (unless_kind m k (λ none. some (alike.1 none)))
]

pointer_nothing : (t : Term) → pointer_to t ≡ NoType → t ≡ NoType
pointer_nothing NoType h = refl
pointer_nothing (Predeclared b) h = absurd (cc)
pointer_nothing ErrorType h = absurd (cc)
pointer_nothing (Defined k) h = absurd (cc)
pointer_nothing (PointerTo t) h = absurd (cc)
pointer_nothing (StructOf path fs) h = absurd (cc)
pointer_nothing (InterfaceOf path ms) h = absurd (cc)

pub settled_nothing : (kind : DeclKey → Kind) (t : Term) → settled kind t ≡ NoType → (base t ≡ NoType) ⊎ ((k : DeclKey) × (base t ≡ Defined k) × (kind k ≡ kinds.Nothing))
settled_nothing kind NoType h = inl refl
settled_nothing kind (Predeclared b) h = absurd (cc)
settled_nothing kind ErrorType h = absurd (cc)
settled_nothing kind (Defined k) h = inr (k, refl, unless_nothing (kind k) k h)
settled_nothing kind (PointerTo t) h = settled_nothing kind t (pointer_nothing (settled kind t) h)
settled_nothing kind (StructOf path fs) h = absurd (cc)
settled_nothing kind (InterfaceOf path ms) h = absurd (cc)

pointer_kind : (t : Term) → (t ≡ NoType → ⊥) → kind_of_term (pointer_to t) ≡ kinds.Pointer
pointer_kind NoType h = absurd (h refl)
pointer_kind (Predeclared b) h = refl
pointer_kind ErrorType h = refl
pointer_kind (Defined k) h = refl
pointer_kind (PointerTo t) h = refl
pointer_kind (StructOf path fs) h = refl
pointer_kind (InterfaceOf path ms) h = refl

-- what is nothing settles to none
pub nothing_settled : (kind : DeclKey → Kind) (t : Term) → (base t ≡ NoType) ⊎ ((k : DeclKey) × (base t ≡ Defined k) × (kind k ≡ kinds.Nothing)) → settled kind t ≡ NoType
nothing_settled kind NoType h = refl
nothing_settled kind (Predeclared b) h = elim h [ inl n ↦ absurd (cc) | inr k ↦ (let e = k.1 in absurd (cc)) ]
nothing_settled kind ErrorType h = elim h [ inl n ↦ absurd (cc) | inr k ↦ (let e = k.1 in absurd (cc)) ]
nothing_settled kind (Defined j) h = elim h [ inl n ↦ absurd (cc) | inr k ↦ (let e = k.1 in let jk : j ≡ k.0 = cc in ap (λ n. defined_unless n j) (ap kind jk ∙ k.2)) ]
nothing_settled kind (PointerTo t) h = ap pointer_to (nothing_settled kind t h)
nothing_settled kind (StructOf path fs) h = elim h [ inl n ↦ absurd (cc) | inr k ↦ (let e = k.1 in absurd (cc)) ]
nothing_settled kind (InterfaceOf path ms) h = elim h [ inl n ↦ absurd (cc) | inr k ↦ (let e = k.1 in absurd (cc)) ]

pub some_or_none : (t : Term) → (t ≡ NoType) ⊎ (t ≡ NoType → ⊥)
some_or_none NoType = inl refl
some_or_none (Predeclared b) = inr (λ h. cc)
some_or_none ErrorType = inr (λ h. cc)
some_or_none (Defined k) = inr (λ h. cc)
some_or_none (PointerTo t) = inr (λ h. cc)
some_or_none (StructOf path fs) = inr (λ h. cc)
some_or_none (InterfaceOf path ms) = inr (λ h. cc)

-- two settlings that leave out the same types give types of one kind
pub kinds_alike : (kind other : DeclKey → Kind) → ((k : DeclKey) → (kind k ≡ kinds.Nothing) ↔ (other k ≡ kinds.Nothing)) → (t : Term) → kind_of_term (settled kind t) ≡ kind_of_term (settled other t)
kinds_alike kind other alike NoType = refl
kinds_alike kind other alike (Predeclared b) = refl
kinds_alike kind other alike ErrorType = refl
kinds_alike kind other alike (Defined k) = unless_alike (kind k) (other k) k (alike k)
kinds_alike kind other alike (PointerTo t) = elim (some_or_none (settled kind t)) [
  | inl none ↦ (let h = settled_nothing kind t none in
      let gone : settled other t ≡ NoType = nothing_settled other t (elim h [ inl n ↦ inl n | inr k ↦ inr (k.0, k.1, (alike k.0).0 k.2) ]) in
      ap (λ x. kind_of_term (pointer_to x)) (none ∙ sym gone))
  | inr some ↦ pointer_kind (settled kind t) some ∙ sym (pointer_kind (settled other t) (λ none. some (nothing_settled kind t (elim (settled_nothing other t none) [ inl n ↦ inl n | inr k ↦ inr (k.0, k.1, (alike k.0).1 k.2) ]))))
]
kinds_alike kind other alike (StructOf path fs) = refl
kinds_alike kind other alike (InterfaceOf path ms) = refl

-- settling keeps the kind of what is no name and leads to nothing nowhere
pub kind_kept : (far : EntryLook) (kind : DeclKey → Kind) (t : Term) → ((base t ≡ NoType) ⊎ ((k : DeclKey) × (base t ≡ Defined k) × (kind k ≡ kinds.Nothing)) → ⊥) → root_kind far t ≡ kind_of_term (root_term far kind t)
kind_kept far kind NoType some = refl
kind_kept far kind (Predeclared b) some = refl
kind_kept far kind ErrorType some = refl
kind_kept far kind (Defined k) some = refl
kind_kept far kind (PointerTo t) some = sym (pointer_kind (settled kind t) (λ h. some (settled_nothing kind t h)))
kind_kept far kind (StructOf path fs) some = refl
kind_kept far kind (InterfaceOf path ms) some = refl

root_nothing : (far : EntryLook) (t : Term) → root_kind far t ≡ kinds.Nothing → (t ≡ NoType) ⊎ ((k : DeclKey) × (t ≡ Defined k) × FarNothing far k)
root_nothing far NoType h = inl refl
root_nothing far (Predeclared b) h = absurd (cc)
root_nothing far ErrorType h = absurd (cc)
root_nothing far (Defined k) h = inr (k, refl, far_nothing far k (kind_nothing (term_in (far k)) h))
root_nothing far (PointerTo t) h = absurd (cc)
root_nothing far (StructOf path fs) h = absurd (cc)
root_nothing far (InterfaceOf path ms) h = absurd (cc)

-- a name of a type that is found leads to nothing where what it is defined by does
pub nothing_by_term : (written : List Entry) (far : EntryLook) (w : Entry) (j : DeclKey) → find_entry written w.key ≡ Some w → base w.term ≡ Defined j → IsNoTypeHere written far (Defined j) → IsNoTypeHere written far (Defined w.key)
nothing_by_term written far w j found is h = (w.key ∷ h.0, (refl, (w, found, nothing_by_base written far (Defined j) w.term h.0 (sym is) h.1)))

-- a type that is not found is nothing where another package's is
pub gone_nothing : (written : List Entry) (far : EntryLook) (k : DeclKey) → find_entry written k ≡ None → IsNoTypeHere written far (Defined k) → FarNothing far k
gone_nothing written far k gone n = by_through n.0 n.1
  where
    names : (j : DeclKey) → k ≡ j → NamesNothing written far j → FarNothing far k
    names j e n = elim n [
      | inl loop ↦ (let f = looped_found written j loop in absurd (let both : None ≡ Some f.0 = sym gone ∙ (ap (find_entry written) e ∙ f.1) in (cc)))
      | inr p ↦ subst (FarNothing far) (sym e) p.1
    ]

    by_through : (through : List DeclKey) → IsNothingBy written far (Defined k) through → FarNothing far k
    by_through [] n = elim n [ inl none ↦ absurd (cc) | inr j ↦ (let both = j.1 in names j.0 (let e : k ≡ j.0 = cc in e) j.2) ]
    by_through (j ∷ js) n =
        let both = n.0 in
        let e : k ≡ j = cc in
        let f : None ≡ Some n.1.0 = sym gone ∙ (ap (find_entry written) e ∙ n.1.1) in
        absurd (cc)

-- what is known of a package's types before they are settled
pub record IsRooted (written : List Entry) (far : EntryLook) (looped nothing : List Bool) (next ends : List (Option ℕ)) : Type 0 where
  pub apart : Apart written
  pub are : AreLoopedEntries written looped
  pub falls : Falls written looped
  pub nothing_is : AreNothing written far nothing
  pub table : IsTable next (length written) (next_named (keys_of written) looped written)
  pub ends_are : AreEnds next ends

module _ (written : List Entry) (far : EntryLook) (looped nothing : List Bool) (next ends : List (Option ℕ)) (r : IsRooted written far looped nothing next ends) where
  -- each chain of names ends

  ends_below : (room i : ℕ) (w : Entry) (o : Option ℕ) → slice_get next i ≡ Some o → r.falls.0 i < suc room → ((j : ℕ) (v : Entry) → slice_get written j ≡ Some v → r.falls.0 j < room → (e : ℕ) × EndsAt next j e) → slice_get written i ≡ Some w → (e : ℕ) × EndsAt next i e
  ends_below room i w None h lt more at = (i, ends_here next i h)
  ends_below room i w (Some j) h lt more at =
      let s = step_of written r.apart looped (λ t. t) next r.table i j h in
      let there : Contains (direct_keys s.user.term) s.key = subst (λ t. Contains (direct_keys t) s.key) (sym s.names) (contains_first s.key []) in
      let falls : r.falls.0 j < r.falls.0 i = r.falls.1 i j s.user s.key s.stands s.unmarked there s.at.numbered in
      let rest = more j s.target s.at.stands (omega (arith, falls, lt)) in
      (rest.0, ends_on next i j rest.0 h rest.1)

  next_there : (i : ℕ) (w : Entry) → slice_get written i ≡ Some w → (o : Option ℕ) × (slice_get next i ≡ Some o)
  next_there i w at = (next_named (keys_of written) looped written i, r.table.each i (slice_get_within written i w at))

  ends_within : (room i : ℕ) (w : Entry) → slice_get written i ≡ Some w → r.falls.0 i < room → (e : ℕ) × EndsAt next i e
  ends_within zero i w at lt = absurd (omega (arith, lt))
  ends_within (suc room) i w at lt = (let n = next_there i w at in ends_below room i w n.0 n.1 lt (λ j v at' lt'. ends_within room j v at' lt') at)

  -- the end of the chain from a number
  end_by : (i : ℕ) (w : Entry) (o : Option ℕ) → slice_get written i ≡ Some w → slice_get ends i ≡ Some o → EndsAt next i (number_or i o)
  end_by i w None at h = (let e = ends_within (suc (r.falls.0 i)) i w at (omega arith) in absurd (r.ends_are.endless i e.0 h e.1))
  end_by i w (Some e) at h = r.ends_are.ends_at i e h

  pub end_there : (i : ℕ) (w : Entry) → slice_get written i ≡ Some w → EndsAt next i (root_at ends i)
  end_there i w at =
      let lt = slice_get_within written i w at in
      let count = r.ends_are.as_many in
      let more = r.table.as_many in
      end_by i w (get_or ends i None) at (slice_get-get_or ends i None (omega (arith, lt, count, more)))

  -- what holds at the end of a chain holds at its start

  nothing_along : (i e : ℕ) (w : Entry) (path : List ℕ) → slice_get written i ≡ Some w → ChainLeads next i path e → ((v : Entry) → slice_get written e ≡ Some v → IsNoTypeHere written far (Defined v.key)) → IsNoTypeHere written far (Defined w.key)
  nothing_along i e w [] at h n = n w (ap (slice_get written) (sym h) ∙ at)
  nothing_along i e w (j ∷ path) at h n =
      let s = step_of written r.apart looped (λ t. t) next r.table i j h.0 in
      let rest = nothing_along j e s.target path s.at.stands h.1 n in
      let same : Some s.user ≡ Some w = sym s.stands ∙ at in
      let uw : s.user ≡ w = cc in
      let is : base w.term ≡ Defined s.target.key = ap (λ (x : Entry). base x.term) (sym uw) ∙ (ap base s.names ∙ ap Defined (sym s.at.key)) in
      nothing_by_term written far w s.target.key (at_place written i w r.apart at).found is rest

  under_along : (kind : DeclKey → Kind) (u : Term) (i e : ℕ) (w : Entry) (path : List ℕ) → slice_get written i ≡ Some w → ChainLeads next i path e → ((v : Entry) → slice_get written e ≡ Some v → IsUnder written far kind (Defined v.key) u) → IsUnder written far kind (Defined w.key) u
  under_along kind u i e w [] at h n = n w (ap (slice_get written) (sym h) ∙ at)
  under_along kind u i e w (j ∷ path) at h n =
      let s = step_of written r.apart looped (λ t. t) next r.table i j h.0 in
      let rest = under_along kind u j e s.target path s.at.stands h.1 n in
      let same : Some s.user ≡ Some w = sym s.stands ∙ at in
      let uw : s.user ≡ w = cc in
      let is : Defined s.target.key ≡ w.term = ap Defined s.at.key ∙ (sym s.names ∙ ap (λ (x : Entry). x.term) uw) in
      (w.key ∷ rest.0, (refl, (w, (at_place written i w r.apart at).found, subst (λ t. IsUnderBy written far kind t rest.0 u) is rest.1)))

  -- at the end of a chain

  looped_nothing : (i : ℕ) (w : Entry) → slice_get written i ≡ Some w → get_or looped i false ≡ true → IsNoTypeHere written far (Defined w.key)
  looped_nothing i w at mark = ([], inr (w.key, refl, inl ((r.are i w at).0 mark)))

  lacking_nothing : (i : ℕ) (w : Entry) (b : Bool) → slice_get written i ≡ Some w → slice_get next i ≡ Some None → get_or looped i false ≡ b → root_kind far w.term ≡ kinds.Nothing → IsNoTypeHere written far (Defined w.key)
  lacking_nothing i w true at stop mark n = looped_nothing i w at mark
  lacking_nothing i w false at stop mark n =
      let found : find_entry written w.key ≡ Some w = (at_place written i w r.apart at).found in
      let unnamed : named_number (keys_of written) w.term ≡ None = unnamed_of written r.apart looped (λ t. t) next r.table i w at stop mark in
      elim (root_nothing far w.term n) [
        | inl none ↦ (w.key ∷ [], (refl, (w, found, inl (ap base none))))
        | inr k ↦ (let no_number : number_of (keys_of written) k.0 ≡ None = ap (named_number (keys_of written)) (sym k.1) ∙ unnamed in
            (w.key ∷ [], (refl, (w, found, inr (k.0, ap base k.1, inr (not_found written k.0 no_number, k.2))))))
      ]

  far_under : (kind : DeclKey → Kind) (k : DeclKey) (o : Option Entry) → find_entry written k ≡ None → far k ≡ o → (FarNothing far k → ⊥) → IsUnderBy written far kind (Defined k) [] (term_in (far k))
  far_under kind k None gone h some = absurd (some (inl h))
  far_under kind k (Some e) gone h some = inr (k, e, refl, gone, h, ap term_in h)

  root_under : (kind : DeclKey → Kind) (t : Term) → named_number (keys_of written) t ≡ None → ((k : DeclKey) → t ≡ Defined k → find_entry written k ≡ None → FarNothing far k → ⊥) → IsUnderBy written far kind t [] (root_term far kind t)
  root_under kind NoType unnamed some = inl (tt, refl)
  root_under kind (Predeclared b) unnamed some = inl (tt, refl)
  root_under kind ErrorType unnamed some = inl (tt, refl)
  root_under kind (Defined k) unnamed some = (let gone = not_found written k unnamed in far_under kind k (far k) gone refl (some k refl gone))
  root_under kind (PointerTo t) unnamed some = inl (tt, refl)
  root_under kind (StructOf path fs) unnamed some = inl (tt, refl)
  root_under kind (InterfaceOf path ms) unnamed some = inl (tt, refl)

  end_under : (kind : DeclKey → Kind) (i : ℕ) (w : Entry) (b : Bool) → slice_get written i ≡ Some w → slice_get next i ≡ Some None → get_or looped i false ≡ b → (IsNoTypeHere written far (Defined w.key) → ⊥) → IsUnder written far kind (Defined w.key) (root_term far kind w.term)
  end_under kind i w true at stop mark some = absurd (some (looped_nothing i w at mark))
  end_under kind i w false at stop mark some =
      let found : find_entry written w.key ≡ Some w = (at_place written i w r.apart at).found in
      let unnamed : named_number (keys_of written) w.term ≡ None = unnamed_of written r.apart looped (λ t. t) next r.table i w at stop mark in
      let here = root_under kind w.term unnamed (λ k is gone lacks. some (w.key ∷ [], (refl, (w, found, inr (k, ap base is, inr (gone, lacks)))))) in
      (w.key ∷ [], (refl, (w, found, here)))

  -- the type at the end of the chain
  pub root_there : (i : ℕ) (w : Entry) → slice_get written i ≡ Some w → (v : Entry) × (slice_get written (root_at ends i) ≡ Some v)
  root_there i w at = stands_by written r.apart looped (λ t. t) next r.table (root_at ends i) None (end_there i w at).2

  pub some_at_root : (i : ℕ) (w v : Entry) → slice_get written i ≡ Some w → slice_get written (root_at ends i) ≡ Some v → (IsNoTypeHere written far (Defined w.key) → ⊥) → IsNoTypeHere written far (Defined v.key) → ⊥
  some_at_root i w v at there some n =
      let end = end_there i w at in
      some (nothing_along i (root_at ends i) w end.0 at end.1 (λ x at'. (let both : Some v ≡ Some x = sym there ∙ at' in let vx : v ≡ x = cc in subst (λ (y : Entry). IsNoTypeHere written far (Defined y.key)) vx n)))

  pub own_under : (kind : DeclKey → Kind) (i : ℕ) (w : Entry) → slice_get written i ≡ Some w → (IsNoTypeHere written far (Defined w.key) → ⊥) → IsUnder written far kind (Defined w.key) (root_term far kind (term_at written (root_at ends i)))
  own_under kind i w at some =
      let end = end_there i w at in
      under_along kind (root_term far kind (term_at written (root_at ends i))) i (root_at ends i) w end.0 at end.1 (λ v there.
      subst (λ t. IsUnder written far kind (Defined v.key) (root_term far kind t)) (ap term_in (sym there)) (end_under kind (root_at ends i) v (get_or looped (root_at ends i) false) there end.2 refl (some_at_root i w v at there some)))

  -- kinds

  module _ (kind : DeclKey → Kind)
      (own : (i : ℕ) (w : Entry) → slice_get written i ≡ Some w → kind w.key ≡ kind_at far nothing written ends i)
      (other : (k : DeclKey) → find_entry written k ≡ None → kind k ≡ kind_of_term (term_in (far k))) where
    own_kind : (i : ℕ) (w : Entry) (b : Bool) → slice_get written i ≡ Some w → get_or nothing i false ≡ b → kind w.key ≡ kind_unless b (root_kind far (term_at written (root_at ends i)))
    own_kind i w b at mark = own i w at ∙ ap (λ x. kind_unless x (root_kind far (term_at written (root_at ends i)))) mark

    own_nothing : (i : ℕ) (w : Entry) (b : Bool) → slice_get written i ≡ Some w → get_or nothing i false ≡ b → kind w.key ≡ kinds.Nothing → IsNoTypeHere written far (Defined w.key)
    own_nothing i w true at mark h = (r.nothing_is i w at).0 mark
    own_nothing i w false at mark h =
        let root = root_there i w at in
        let end = end_there i w at in
        let k : root_kind far root.0.term ≡ kinds.Nothing = ap (λ o. root_kind far (term_in o)) (sym root.1) ∙ (sym (own_kind i w false at mark) ∙ h) in
        nothing_along i (root_at ends i) w end.0 at end.1 (λ x at'.
        (let both : Some root.0 ≡ Some x = sym root.1 ∙ at' in
        let vx : root.0 ≡ x = cc in
        lacking_nothing (root_at ends i) x (get_or looped (root_at ends i) false) at' end.2 refl (subst (λ (y : Entry). root_kind far y.term ≡ kinds.Nothing) vx k)))

    nothing_cases : (k : DeclKey) (o : Option Entry) → find_entry written k ≡ o → (kind k ≡ kinds.Nothing) ↔ IsNoTypeHere written far (Defined k)
    nothing_cases k None f = (
      (λ h. ([], inr (k, refl, inr (f, far_nothing far k (kind_nothing (term_in (far k)) (sym (other k f) ∙ h)))))),
      (λ n. other k f ∙ ap kind_of_term (far_term far k (gone_nothing written far k f n))),
    )
    nothing_cases k (Some e) f =
        let at = at_found written k e f in (
          (λ h. subst (λ x. IsNoTypeHere written far (Defined x)) at.1.key (own_nothing at.0 e (get_or nothing at.0 false) at.1.stands refl (ap kind at.1.key ∙ h))),
          (λ n. ap kind (sym at.1.key) ∙ own_kind at.0 e true at.1.stands ((r.nothing_is at.0 e at.1.stands).1 (subst (λ x. IsNoTypeHere written far (Defined x)) (sym at.1.key) n))),
        )

    pub nothing_are : (k : DeclKey) → (kind k ≡ kinds.Nothing) ↔ IsNoTypeHere written far (Defined k)
    nothing_are k = nothing_cases k (find_entry written k) refl

    -- settling keeps the kind of what is at the end of a chain
    root_kept : (i : ℕ) (w : Entry) → slice_get written i ≡ Some w → (IsNoTypeHere written far (Defined w.key) → ⊥) → root_kind far (term_at written (root_at ends i)) ≡ kind_of_term (root_term far kind (term_at written (root_at ends i)))
    root_kept i w at some =
        let root = root_there i w at in
        let v : Entry = root.0 in
        let none = some_at_root i w v at root.1 some in
        let found : find_entry written v.key ≡ Some v = (at_place written (root_at ends i) v r.apart root.1).found in
        let kept : root_kind far v.term ≡ kind_of_term (root_term far kind v.term) = kind_kept far kind v.term (λ h. none (elim h [
          | inl n ↦ (v.key ∷ [], (refl, (v, found, inl n)))
          | inr k ↦ nothing_by_term written far v k.0 found k.1 ((nothing_are k.0).0 k.2)
        ])) in
        subst (λ t. root_kind far t ≡ kind_of_term (root_term far kind t)) (ap term_in (sym root.1)) kept

    gone_kind : (k : DeclKey) (u : Term) (through : List DeclKey) → find_entry written k ≡ None → IsUnderBy written far kind (Defined k) through u → kind k ≡ kind_of_term u
    gone_kind k u [] gone h = elim h [
      | inl p ↦ absurd p.0
      | inr x ↦ (let both = x.2 in
          let e : k ≡ x.0 = cc in
          other k gone ∙ (ap (λ j. kind_of_term (term_in (far j))) e ∙ (ap (λ o. kind_of_term (term_in o)) x.4 ∙ ap kind_of_term (sym x.5))))
    ]
    gone_kind k u (j ∷ js) gone h =
        let both = h.0 in
        let e : k ≡ j = cc in
        let f : None ≡ Some h.1.0 = sym gone ∙ (ap (find_entry written) e ∙ h.1.1) in
        absurd (cc)

    own_are : (i : ℕ) (w : Entry) (u : Term) (b : Bool) → slice_get written i ≡ Some w → get_or nothing i false ≡ b → (IsNoTypeHere written far (Defined w.key) → ⊥) → IsUnder written far kind (Defined w.key) u → kind w.key ≡ kind_of_term u
    own_are i w u true at mark some under = absurd (some ((r.nothing_is i w at).0 mark))
    own_are i w u false at mark some under =
        let mine = own_under kind i w at some in
        own_kind i w false at mark ∙ (root_kept i w at some ∙ ap kind_of_term (under_one written far kind (Defined w.key) (root_term far kind (term_at written (root_at ends i))) u mine.0 under.0 mine.1 under.1))

    kinds_by : (k : DeclKey) (u : Term) (o : Option Entry) → find_entry written k ≡ o → (IsNoTypeHere written far (Defined k) → ⊥) → IsUnder written far kind (Defined k) u → kind k ≡ kind_of_term u
    kinds_by k u None f some under = gone_kind k u under.0 f under.1
    kinds_by k u (Some e) f some under =
        let at = at_found written k e f in
        let back = sym at.1.key in
        ap kind back ∙ own_are at.0 e u (get_or nothing at.0 false) at.1.stands refl (λ n. some (subst (λ x. IsNoTypeHere written far (Defined x)) at.1.key n)) (subst (λ x. IsUnder written far kind (Defined x) u) back under)

    pub kinds_are : AreKinds written far kind
    kinds_are k u h = elim h [
      | inl n ↦ (nothing_are k).1 n.0 ∙ ap kind_of_term (sym n.1)
      | inr s ↦ kinds_by k u (find_entry written k) refl s.0 s.1
    ]

  -- underlying types

  under_by : (kind : DeclKey → Kind) (i : ℕ) (w : Entry) (b : Bool) → slice_get written i ≡ Some w → get_or nothing i false ≡ b → IsUnderlying written far kind w.key (term_unless b (root_term far kind (term_at written (root_at ends i))))
  under_by kind i w true at mark = inl ((r.nothing_is i w at).0 mark, refl)
  under_by kind i w false at mark =
      let some : IsNoTypeHere written far (Defined w.key) → ⊥ = λ n. (let yes = (r.nothing_is i w at).1 n in let both : false ≡ true = sym mark ∙ yes in absurd (cc)) in
      inr (some, own_under kind i w at some)

  pub underlying_is : (kind : DeclKey → Kind) (i : ℕ) (w : Entry) → slice_get written i ≡ Some w → IsUnderlying written far kind w.key (under_at far kind nothing written ends i)
  underlying_is kind i w at = under_by kind i w (get_or nothing i false) at refl

-- kinds by numbers are those
pub known_own : (written : List Entry) (far : EntryLook) (nothing : List Bool) (ends : List (Option ℕ)) (ks : List Kind) → Apart written → IsTable ks (length written) (kind_at far nothing written ends) → (i : ℕ) (w : Entry) → slice_get written i ≡ Some w → known_kind (keys_of written) ks far w.key ≡ kind_at far nothing written ends i
known_own written far nothing ends ks apart made i w at =
    ap (λ o. kind_by ks o (far w.key)) (at_place written i w apart at).numbered ∙ table_at ks (length written) (kind_at far nothing written ends) kinds.Nothing i made (slice_get_within written i w at)

pub known_other : (written : List Entry) (far : EntryLook) (ks : List Kind) (k : DeclKey) → find_entry written k ≡ None → known_kind (keys_of written) ks far k ≡ kind_of_term (term_in (far k))
known_other written far ks k gone = ap (λ o. kind_by ks o (far k)) (not_numbered written k gone)
