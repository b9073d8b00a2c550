-- What the types of a package mention.
use Rattle.std.proofs.Common.{◌≡◌, ◌⊎◌, ℕ, inl, inr, Bool, true, false, ◌||◌, List, [], ◌∷◌, Some, None, if◌then◌else◌, sym, ap, ◌∙◌, subst}
use Rattle.std.specs.List.{Contains}
use Rattle.std.proofs.lemmas.List.Elements.{Contains-append_left, Contains-append_right, Contains-append_cases, Contains-push}
use Rattle.go_term_core.specs.text_core.Text.{is_blank}
use Rattle.go_term_core.specs.decl_core.declared.keys.DeclKey.{DeclKey}
use Rattle.go_term_core.specs.declared.settling.kind.Kind.{Kind}
use Rattle.go_term_core.specs.declared.settling.kind.Kind.TheVariants as kinds
use Rattle.go_term_core.specs.settling.Settled.{kind_of_term, is_among_names, settled_sign}
use Rattle.go_term_core.proofs.SettlingMentions.{settled_mentions_written, sign_mentions}
use Rattle.go_term_core.specs.Terms.{Term, Defined, term_keys, sign_keys}
use Rattle.go_table_core.specs.Entries.{Entry, Member, EntryLook, find_entry, members_keys, entry_keys}
use Rattle.go_table_core.specs.Methods.{has_field_before}
use Rattle.go_type_core.specs.Built.{IsUnderBy, IsUnderlying, settled_member, unrepeated_methods, kept_over, IsEntry, AreEntries}
use Rattle.go_type_core.specs.Laws.{written_keys, FarMentions, BuiltMentionsWritten}
use Rattle.go_type_core.proofs.Elsewhere.{none_there, one_there, first_in, later_in, found_in, keys_in, key_found}

-- the declaration of a type
entry_from : (written : List Entry) (far : EntryLook) (kind : DeclKey → Kind) (ws es : List Entry) (e : Entry) → AreEntries written far kind ws es → Contains es e → (w : Entry) × Contains ws w × IsEntry written far kind w e
entry_from written far kind ws [] e h at = absurd (none_there e at)
entry_from written far kind [] (x ∷ es) e h at = absurd h
entry_from written far kind (w ∷ ws) (x ∷ es) e h at = elim (Contains-append_cases (x ∷ []) es e at) [
  | inl here ↦ (w, first_in w ws, subst (λ y. IsEntry written far kind w y) (one_there x e here) h.0)
  | inr there ↦ (let r = entry_from written far kind ws es e h.1 there in (r.0, later_in w ws r.0 r.1, r.2))
]

-- methods that are kept mention what all do

kept_by : (kind : DeclKey → Kind) (m : Member) (without rest ms : List Member) (j : DeclKey) (b : Bool) → (Contains (members_keys without) j → Contains (members_keys ms) j) → (Contains (members_keys rest) j → Contains (members_keys ms) j)
    → Contains (members_keys (if b then without else settled_member kind m ∷ rest)) j → Contains (members_keys (m ∷ ms)) j
kept_by kind m without rest ms j true h k at = Contains-append_right (sign_keys m.sign) (members_keys ms) j (h at)
kept_by kind m without rest ms j false h k at = elim (Contains-append_cases (sign_keys (settled_sign kind m.sign)) (members_keys rest) j at) [
  | inl here ↦ Contains-append_left (sign_keys m.sign) (members_keys ms) j (sign_mentions kind m.sign j here).1
  | inr there ↦ Contains-append_right (sign_keys m.sign) (members_keys ms) j (k there)
]

kept_mention : (kind : DeclKey → Kind) (path : List ℕ) (u : Term) (seen : List (List ℕ)) (ms : List Member) (j : DeclKey) → Contains (members_keys (unrepeated_methods kind path u seen ms)) j → Contains (members_keys ms) j
kept_mention kind path u seen [] j at = at
kept_mention kind path u seen (m ∷ ms) j at =
    kept_by kind m (unrepeated_methods kind path u seen ms) (unrepeated_methods kind path u (m.name ∷ seen) ms) ms j (is_blank m.name || (is_among_names seen m.name || has_field_before path u m)) (kept_mention kind path u seen ms j) (kept_mention kind path u (m.name ∷ seen) ms j) at

kept_over_mention : (n : Kind) (kind : DeclKey → Kind) (path : List ℕ) (u : Term) (ms : List Member) (j : DeclKey) → Contains (members_keys (kept_over n kind path u ms)) j → Contains (members_keys ms) j
kept_over_mention kinds.Nothing kind path u ms j at = kept_mention kind path u [] ms j at
kept_over_mention kinds.Pointer kind path u ms j at = absurd (none_there j at)
kept_over_mention kinds.Interface kind path u ms j at = absurd (none_there j at)
kept_over_mention kinds.Other kind path u ms j at = kept_mention kind path u [] ms j at

-- underlying types

module _ (far : EntryLook) (written : List Entry) (kind : DeclKey → Kind) (j : DeclKey) where
  abbrev Told : Type 0
  Told = Contains (written_keys written) j ⊎ FarMentions far written j

  -- all that a type mentions is mentioned in the package
  abbrev Within : Term → Type 0
  Within t = (k : DeclKey) → Contains (term_keys t) k → Contains (written_keys written) k

  within : (w : Entry) → Contains written w → Within w.term
  within w at k here = keys_in written w k at (Contains-append_left (term_keys w.term) (members_keys w.methods) k here)

  led : (t u : Term) (through : List DeclKey) → Within t → IsUnderBy written far kind t through u → Contains (term_keys u) j → Told
  led t u [] inside h at = elim h [
    | inl plain ↦ inl (inside j (settled_mentions_written kind t j (subst (λ x. Contains (term_keys x) j) plain.1 at)).1)
    | inr x ↦ inr (x.0, x.1, inside x.0 (subst (λ y. Contains (term_keys y) x.0) (sym x.2) (Contains-push [] x.0)), x.4, subst (λ y. Contains (term_keys y) j) x.5 at)
  ]
  led t u (k ∷ ks) inside h at = (let w = h.1.0 in led w.term u ks (within w (found_in written k w h.1.1)) h.1.2 at)

  name_led : (k : DeclKey) (v : Entry) (u : Term) (through : List DeclKey) → find_entry written k ≡ Some v → IsUnderBy written far kind (Defined k) through u → Contains (term_keys u) j → Told
  name_led k v u [] f h at = elim h [
    | inl plain ↦ absurd plain.0
    | inr x ↦
        let both : Defined k ≡ Defined x.0 = x.2 in
        let kx : k ≡ x.0 = cc in
        let clash : Some v ≡ None = sym f ∙ (ap (find_entry written) kx ∙ x.3) in
        absurd (cc)
  ]
  name_led k v u (i ∷ is) f h at = (let w = h.1.0 in led w.term u is (within w (found_in written i w h.1.1)) h.1.2 at)

  under_told : (k : DeclKey) (v : Entry) (u : Term) → find_entry written k ≡ Some v → IsUnderlying written far kind k u → Contains (term_keys u) j → Told
  under_told k v u f h at = elim h [
    | inl none ↦ absurd (none_there j (subst (λ x. Contains (term_keys x) j) none.1 at))
    | inr some ↦ name_led k v u some.1.0 f some.1.1 at
  ]

  pub entry_told : (types : List Entry) (e : Entry) → AreEntries written far kind written types → Contains types e → Contains (entry_keys e) j → Told
  entry_told types e are there at =
      let w = entry_from written far kind written types e are there in
      let v = key_found written w.0 w.1 in
      elim (Contains-append_cases (term_keys e.term) (members_keys e.methods) j at) [
        | inl here ↦ under_told w.0.key v.0 e.term v.1 w.2.term here
        | inr more ↦ inl (keys_in written w.0 j w.1 (Contains-append_right (term_keys w.0.term) (members_keys w.0.methods) j
            (kept_over_mention (kind_of_term e.term) kind w.0.key.path e.term w.0.methods j (subst (λ ms. Contains (members_keys ms) j) w.2.methods more))))
      ]

pub built_mentions_written : BuiltMentionsWritten
built_mentions_written far written types faults a e there j at = entry_told far written a.kind j types e a.entries there at
