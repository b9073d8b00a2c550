-- What is written of a package has one list of types.
use Rattle.std.proofs.Common.{◌≡◌, ℕ, zero, suc, inl, inr, ◌↔◌, Bool, true, false, List, [], ◌∷◌, Option, Some, None, refl, sym, ap, ◌∙◌, subst}
use Rattle.std.specs.Prelude.{IsTrue, slice_get}
use Rattle.go_term_core.specs.decl_core.declared.keys.DeclKey.{DeclKey}
use Rattle.go_term_core.specs.declared.settling.kind.Kind.{Kind}
use Rattle.go_term_core.specs.declared.settling.kind.Kind.TheVariants as kinds
use Rattle.go_term_core.specs.settling.Settled.{kind_of_term}
use Rattle.go_term_core.specs.Terms.{Term, Defined}
use Rattle.go_table_core.specs.Entries.{Entry, EntryLook, find_entry, term_in}
use Rattle.go_type_core.specs.declared.build.TypeFault.{TypeFault}
use Rattle.go_type_core.specs.Built.{IsNoTypeHere, IsUnderlying, kept_over, IsEntry, AreEntries, looped_faults, IsBuilt}
use Rattle.go_type_core.specs.Laws.{OneSettled}
use Rattle.go_type_core.proofs.Keyed.{at_found}
use Rattle.go_type_core.proofs.Nothings.{far_term}
use Rattle.go_type_core.proofs.Unders.{under_one, under_pair, some_or_none, kinds_alike, gone_nothing}

-- two tests of one fact agree
same_test : {P : Type 0} (a b : Bool) → (IsTrue a ↔ P) → (IsTrue b ↔ P) → a ≡ b
same_test true true h k = refl
same_test true false h k = absurd (let e = k.1 (h.0 refl) in (cc))
same_test false true h k = absurd (let e = h.1 (k.0 refl) in (cc))
same_test false false h k = refl

-- entries of one list

entry_there : (written : List Entry) (far : EntryLook) (kind : DeclKey → Kind) (ws es : List Entry) (i : ℕ) (w : Entry) → AreEntries written far kind ws es → slice_get ws i ≡ Some w → (e : Entry) × IsEntry written far kind w e
entry_there written far kind [] es i w h at = absurd (cc)
entry_there written far kind (v ∷ ws) [] i w h at = absurd h
entry_there written far kind (v ∷ ws) (e ∷ es) zero w h at = (let vw : v ≡ w = cc in (e, subst (λ x. IsEntry written far kind x e) vw h.0))
entry_there written far kind (v ∷ ws) (e ∷ es) (suc i) w h at = entry_there written far kind ws es i w h.1 at

underlying_one : (written : List Entry) (far : EntryLook) (kind : DeclKey → Kind) (k : DeclKey) (u v : Term) → IsUnderlying written far kind k u → IsUnderlying written far kind k v → u ≡ v
underlying_one written far kind k u v h g = elim h [
  | inl x ↦ elim g [ inl y ↦ x.1 ∙ sym y.1 | inr y ↦ absurd (y.0 x.0) ]
  | inr x ↦ elim g [ inl y ↦ absurd (x.0 y.0) | inr y ↦ under_one written far kind (Defined k) u v x.1.0 y.1.0 x.1.1 y.1.1 ]
]

entry_one : (written : List Entry) (far : EntryLook) (kind : DeclKey → Kind) (w e f : Entry) → IsEntry written far kind w e → IsEntry written far kind w f → e ≡ f
entry_one written far kind w e f h g =
    let key : e.key ≡ f.key = h.key ∙ sym g.key in
    let name : e.name ≡ f.name = h.name ∙ sym g.name in
    let term : e.term ≡ f.term = underlying_one written far kind w.key e.term f.term h.term g.term in
    let methods : e.methods ≡ f.methods = h.methods ∙ (ap (λ t. kept_over (kind_of_term t) kind w.key.path t w.methods) term ∙ sym g.methods) in
    λ i. record { key = key i; name = name i; term = term i; methods = methods i }

entries_one : (written : List Entry) (far : EntryLook) (kind : DeclKey → Kind) (ws es fs : List Entry) → AreEntries written far kind ws es → AreEntries written far kind ws fs → es ≡ fs
entries_one written far kind [] [] [] h g = refl
entries_one written far kind [] [] (f ∷ fs) h g = absurd g
entries_one written far kind [] (e ∷ es) fs h g = absurd h
entries_one written far kind (w ∷ ws) [] fs h g = absurd h
entries_one written far kind (w ∷ ws) (e ∷ es) [] h g = absurd g
entries_one written far kind (w ∷ ws) (e ∷ es) (f ∷ fs) h g =
    let head : e ≡ f = entry_one written far kind w e f h.0 g.0 in
    let tail : es ≡ fs = entries_one written far kind ws es fs h.1 g.1 in
    λ i. head i ∷ tail i

module _ (far : EntryLook) (written one other : List Entry) (faults others : List TypeFault) (a : IsBuilt far written one faults) (b : IsBuilt far written other others) where
  looped_same : (k : DeclKey) → a.looped k ≡ b.looped k
  looped_same k = same_test (a.looped k) (b.looped k) (a.looped_are k) (b.looped_are k)

  faults_same : faults ≡ others
  faults_same = a.faults_are ∙ (ap (λ l. looped_faults l 0 written) (λ i k. looped_same k i) ∙ sym b.faults_are)

  -- the kinds

  nothing_alike : (k : DeclKey) → (a.kind k ≡ kinds.Nothing) ↔ (b.kind k ≡ kinds.Nothing)
  nothing_alike k = ((λ h. (b.nothing_is k).1 ((a.nothing_is k).0 h)), (λ h. (a.nothing_is k).1 ((b.nothing_is k).0 h)))

  both_nothing : (k : DeclKey) → IsNoTypeHere written far (Defined k) → a.kind k ≡ b.kind k
  both_nothing k n = (a.nothing_is k).1 n ∙ sym ((b.nothing_is k).1 n)

  far_kind : (k : DeclKey) (o : Option Entry) → find_entry written k ≡ None → far k ≡ o → a.kind k ≡ b.kind k
  far_kind k None gone h = both_nothing k ([], inr (k, refl, inr (gone, inl h)))
  far_kind k (Some e) gone h = elim (some_or_none e.term) [
    | inl none ↦ both_nothing k ([], inr (k, refl, inr (gone, inr (e, h, none))))
    | inr some ↦
        let not : IsNoTypeHere written far (Defined k) → ⊥ = λ n. some (ap term_in (sym h) ∙ far_term far k (gone_nothing written far k gone n)) in
        a.kinds_are k e.term (inr (not, ([], inr (k, e, refl, gone, h, refl)))) ∙ sym (b.kinds_are k e.term (inr (not, ([], inr (k, e, refl, gone, h, refl)))))
  ]

  -- two underlying types of one type are of one kind
  under_kinds : (k : DeclKey) (u v : Term) → IsUnderlying written far a.kind k u → IsUnderlying written far b.kind k v → kind_of_term u ≡ kind_of_term v
  under_kinds k u v h g = elim h [
    | inl x ↦ elim g [ inl y ↦ ap kind_of_term (x.1 ∙ sym y.1) | inr y ↦ absurd (y.0 x.0) ]
    | inr x ↦ elim g [
      | inl y ↦ absurd (x.0 y.0)
      | inr y ↦ under_pair written far a.kind b.kind (λ p q. kind_of_term p ≡ kind_of_term q) (λ t. refl) (kinds_alike a.kind b.kind nothing_alike) (Defined k) u v x.1.0 y.1.0 x.1.1 y.1.1
    ]
  ]

  own_kind : (k : DeclKey) (e x y : Entry) → e.key ≡ k → IsEntry written far a.kind e x → IsEntry written far b.kind e y → a.kind k ≡ b.kind k
  own_kind k e x y is h g =
      ap a.kind (sym is) ∙ (a.kinds_are e.key x.term h.term ∙ (under_kinds e.key x.term y.term h.term g.term ∙ (sym (b.kinds_are e.key y.term g.term) ∙ ap b.kind is)))

  kind_cases : (k : DeclKey) (o : Option Entry) → find_entry written k ≡ o → a.kind k ≡ b.kind k
  kind_cases k None f = far_kind k (far k) f refl
  kind_cases k (Some e) f =
      let at = at_found written k e f in
      let x = entry_there written far a.kind written one at.0 e a.entries at.1.stands in
      let y = entry_there written far b.kind written other at.0 e b.entries at.1.stands in
      own_kind k e x.0 y.0 at.1.key x.1 y.1

  kind_same : a.kind ≡ b.kind
  kind_same = λ i k. kind_cases k (find_entry written k) refl i

  types_same : one ≡ other
  types_same = entries_one written far b.kind written one other (subst (λ kind. AreEntries written far kind written one) kind_same a.entries) b.entries

pub one_settled : OneSettled
one_settled far written one other faults others a b = (types_same far written one other faults others a b, faults_same far written one other faults others a b)
