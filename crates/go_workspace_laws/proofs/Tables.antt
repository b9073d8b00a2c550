-- The types of a package mention the packages that its declarations do, and those that types of theirs do.
use Rattle.std.proofs.Common.{◌≡◌, ℕ, Bool, true, false, List, [], ◌∷◌, ◌++◌, inl, inr, refl, sym, subst, ◌∙◌, if◌then◌else◌}
use Rattle.std.specs.Prelude.{Option, Some, None, ⊤, ◌||◌}
use Rattle.std.specs.List.{filter, enumerate_from}
use Rattle.go_path_core.specs.text_core.Text.{is_blank}
use Rattle.go_path_core.specs.text_core.declared.span.Span.{Span}
use Rattle.go_tree_nodes.specs.declared.files.Receiver.{Receiver}
use Rattle.go_tree_nodes.specs.declared.types.TypeName.{TypeName}
use Rattle.go_tree_nodes.specs.Trees.{FuncTree, TypeSpecTree}
use Rattle.go_term_core.specs.decl_core.declared.keys.DeclKey.{DeclKey}
use Rattle.go_term_core.specs.decl_core.TopDecls.{TopDeclTree, FormTree, ValueForm, TypeForm, FuncForm}
use Rattle.go_term_core.specs.Terms.{Term, Defined}
use Rattle.go_term_core.specs.declared.settling.kind.Kind.{Kind}
use Rattle.go_term_core.specs.declared.settling.kind.Kind.TheVariants as kinds
use Rattle.go_term_core.specs.settling.Settled.{is_among_names, kind_of_term}
use Rattle.go_body_core.specs.table_core.Entries.{Entry, EntryLook, Member, find_entry, same_key}
use Rattle.go_body_core.specs.table_core.Methods.{has_field_before}
use Rattle.go_body_core.specs.table_core.ByRule.{adding}
use Rattle.go_select_core.specs.type_core.declared.build.TypeFault.{TypeFault}
use Rattle.go_select_core.specs.type_core.Built.{AreEntries, IsBuilt, IsEntry, IsUnderBy, IsUnderlying, unrepeated_methods, kept_over}
use Rattle.go_body_core.specs.typexpr_core.WrittenWritten.{InFile, Meaning}
use Rattle.go_body_core.specs.typexpr_core.EntryEntries.{Meanings, Received, decl_methods, entries_with, entry_of, file_at, file_entries, file_methods, func_methods, is_listed, is_type_of, listed_entry, methods_received, package_methods, spec_entry, type_key}
use Rattle.go_body_core.specs.typexpr_core.EntryOutlines.{FileOutline}
use Rattle.go_body_core.specs.typexpr_core.EntryAmong.{Among, among_filter, among_flat, among_map}
use Rattle.go_snap_core.proofs.NearClosing.{either}
use Rattle.go_workspace_laws.proofs.Terms.{IsSignIn, IsTermIn, settled_in, settled_sign_in, signature_in, term_in}

module _ (Inside : List ℕ → Type 0) where
  abbrev pub AreMembersIn : List Member → Type 0
  AreMembersIn [] = ⊤
  AreMembersIn (m ∷ ms) = IsSignIn Inside m.sign × AreMembersIn ms

  abbrev pub IsEntryIn : Entry → Type 0
  IsEntryIn e = Inside e.key.path × IsTermIn Inside e.term × AreMembersIn e.methods

  abbrev pub AreEntriesIn : List Entry → Type 0
  AreEntriesIn [] = ⊤
  AreEntriesIn (e ∷ es) = IsEntryIn e × AreEntriesIn es

  pub find_in : (es : List Entry) (k : DeclKey) (e : Entry) → AreEntriesIn es → find_entry es k ≡ Some e → IsEntryIn e
  find_in [] k e h is = absurd (let no : None ≡ Some e = is in cc)
  find_in (x ∷ es) k e h is = by (same_key x.key k) (λ rest. find_in es k e h.1 rest) is
    where
      by : (b : Bool) → (find_entry es k ≡ Some e → IsEntryIn e) → (if b then Some x else find_entry es k) ≡ Some e → IsEntryIn e
      by true rest same = subst IsEntryIn (let s : Some x ≡ Some e = same in let t : x ≡ e = cc in t) h.0
      by false rest same = rest same

  -- declarations as they are written

  all_in : (es : List Entry) → ((e : Entry) → Among es e → IsEntryIn e) → AreEntriesIn es
  all_in [] h = tt
  all_in (e ∷ es) h = (h e (inl refl), all_in es (λ x a. h x (inr a)))

  members_in : (ms : List Member) → ((m : Member) → Among ms m → IsSignIn Inside m.sign) → AreMembersIn ms
  members_in [] h = tt
  members_in (m ∷ ms) h = (h m (inl refl), members_in ms (λ x a. h x (inr a)))

  abbrev IsReceivedIn : Received → Type 0
  IsReceivedIn r = IsSignIn Inside r.member.sign

  methods_in : (key : DeclKey) (rs : List Received) → ((r : Received) → Among rs r → IsReceivedIn r) → AreMembersIn (methods_received key rs)
  methods_in key rs h =
      members_in (methods_received key rs)
      (λ m at. (let r = among_map (λ (r : Received). r.member) (filter (λ (r : Received). is_type_of key r.base) rs) m at in
      let s = among_filter (λ (r : Received). is_type_of key r.base) rs r.0 r.1 in
      subst (λ (n : Member). IsSignIn Inside n.sign) r.2 (h r.0 s.0)))

  module _ (mean : Meaning) (f : InFile) (named : (n : TypeName) → IsTermIn Inside (mean n)) (own : Inside f.path) where
    func_in : (d : TopDeclTree) (g : FuncTree) (o : Option Receiver) (r : Received) → Among (func_methods mean f d g o) r → IsReceivedIn r
    func_in d g None r at = absurd at
    func_in d g (Some receiver) r at = elim at [
      | inl e ↦ subst IsReceivedIn e (signature_in Inside mean f named own g.signature)
      | inr none ↦ absurd none
    ]

    form_in : (d : TopDeclTree) (form : FormTree) (r : Received) → Among (decl_methods mean f d form) r → IsReceivedIn r
    form_in d (ValueForm k v i) r at = absurd at
    form_in d (TypeForm t) r at = absurd at
    form_in d (FuncForm g) r at = func_in d g g.receiver r at

    file_methods_in : (ds : List TopDeclTree) (r : Received) → Among (file_methods mean f ds) r → IsReceivedIn r
    file_methods_in ds r at = (let d = among_flat (λ (d : TopDeclTree). decl_methods mean f d d.form) ds r at in form_in d.0 d.0.form r d.2)

    -- a type is one that counts where it is no alias
    listed_in : (mark : Option Span) (s e : Entry) → IsEntryIn s → Among (listed_entry (is_listed false mark) s) e → IsEntryIn e
    listed_in None s e h (inl same) = subst IsEntryIn same h
    listed_in None s e h (inr none) = absurd none
    listed_in (Some m) s e h at = absurd at

    module _ (rs : List Received) (received : (r : Received) → Among rs r → IsReceivedIn r) where
      spec_in : (d : TopDeclTree) (t : TypeSpecTree) → IsEntryIn (spec_entry mean f rs d t)
      spec_in d t = (own, term_in Inside mean f named own t.type_expr, methods_in (type_key f d.number) rs received)

      entry_of_in : (d : TopDeclTree) (form : FormTree) (e : Entry) → Among (entry_of mean f rs d form) e → IsEntryIn e
      entry_of_in d (ValueForm k v i) e at = absurd at
      entry_of_in d (TypeForm t) e at = listed_in t.alias (spec_entry mean f rs d t) e (spec_in d t) at
      entry_of_in d (FuncForm g) e at = absurd at

      file_entries_in : (ds : List TopDeclTree) (e : Entry) → Among (file_entries mean f rs ds) e → IsEntryIn e
      file_entries_in ds e at = (let d = among_flat (λ (d : TopDeclTree). entry_of mean f rs d d.form) ds e at in entry_of_in d.0 d.0.form e d.2)

  module _ (means : Meanings) (path : List ℕ) (os : List FileOutline) (named : (file : ℕ) (n : TypeName) → IsTermIn Inside (means file n)) (own : Inside path) where
    received_in : (r : Received) → Among (package_methods means path os) r → IsReceivedIn r
    received_in r at =
        let q = among_flat (λ (q : ℕ × FileOutline). file_methods (means q.0) (file_at path q.0 q.1) q.1.decls) (enumerate_from 0 os) r at in
        file_methods_in (means q.0.0) (file_at path q.0.0 q.0.1) (named q.0.0) own q.0.1.decls r q.2

    pub written_in : AreEntriesIn (entries_with means path (package_methods means path os) os)
    written_in =
        let rs = package_methods means path os in
        all_in (entries_with means path rs os)
        (λ e at. (let q = among_flat (λ (q : ℕ × FileOutline). file_entries (means q.0) (file_at path q.0 q.1) rs q.1.decls) (enumerate_from 0 os) e at in
        file_entries_in (means q.0.0) (file_at path q.0.0 q.0.1) (named q.0.0) own rs received_in q.0.1.decls e q.2))

  -- once they are settled

  kept_in : (kind : DeclKey → Kind) (path : List ℕ) (u : Term) (seen : List (List ℕ)) (ms : List Member) → AreMembersIn ms → AreMembersIn (unrepeated_methods kind path u seen ms)
  kept_in kind path u seen [] h = h
  kept_in kind path u seen (m ∷ ms) h =
      either AreMembersIn (is_blank m.name || (is_among_names seen m.name || has_field_before path u m)) _ _ (kept_in kind path u seen ms h.1)
      (settled_sign_in Inside kind m.sign h.0, kept_in kind path u (m.name ∷ seen) ms h.1)

  kept_over_in : (k : Kind) (kind : DeclKey → Kind) (path : List ℕ) (u : Term) (ms : List Member) → AreMembersIn ms → AreMembersIn (kept_over k kind path u ms)
  kept_over_in kinds.Nothing kind path u ms h = kept_in kind path u [] ms h
  kept_over_in kinds.Pointer kind path u ms h = tt
  kept_over_in kinds.Interface kind path u ms h = tt
  kept_over_in kinds.Other kind path u ms h = kept_in kind path u [] ms h

  module _ (written : List Entry) (far : EntryLook) (kind : DeclKey → Kind) (here : AreEntriesIn written) (there : (k : DeclKey) (e : Entry) → Inside k.path → far k ≡ Some e → IsEntryIn e) where
    under_in : (t : Term) (through : List DeclKey) (u : Term) → IsTermIn Inside t → IsUnderBy written far kind t through u → IsTermIn Inside u
    under_in t [] u h (inl x) = subst (IsTermIn Inside) (sym x.1) (settled_in Inside kind t h)
    under_in t [] u h (inr x) = subst (IsTermIn Inside) (sym x.5) (there x.0 x.1 (subst (IsTermIn Inside) x.2 h) x.4).1
    under_in t (k ∷ ks) u h x = under_in x.1.0.term ks u (find_in written k x.1.0 here x.1.1).1 x.1.2

    underlying_in : (k : DeclKey) (u : Term) → Inside k.path → IsUnderlying written far kind k u → IsTermIn Inside u
    underlying_in k u h (inl x) = subst (IsTermIn Inside) (sym x.1) tt
    underlying_in k u h (inr x) = under_in (Defined k) x.1.0 u h x.1.1

    entry_in : (w e : Entry) → IsEntryIn w → IsEntry written far kind w e → IsEntryIn e
    entry_in w e h x = (
      subst (λ (k : DeclKey). Inside k.path) (sym x.key) h.0,
      underlying_in w.key e.term h.0 x.term,
      subst AreMembersIn (sym x.methods) (kept_over_in (kind_of_term e.term) kind w.key.path e.term w.methods h.2),
    )

    entries_in : (ws es : List Entry) → AreEntriesIn ws → AreEntries written far kind ws es → AreEntriesIn es
    entries_in [] [] h x = tt
    entries_in [] (e ∷ es) h x = absurd x
    entries_in (w ∷ ws) [] h x = absurd x
    entries_in (w ∷ ws) (e ∷ es) h x = (entry_in w e h.0 x.0, entries_in ws es h.1 x.1)

  -- a package's types, over what is known of others, and both together

  module _ (far written own : List Entry) (loops : List TypeFault) (here : AreEntriesIn written) (there : (k : DeclKey) (e : Entry) → Inside k.path → find_entry far k ≡ Some e → IsEntryIn e)
      (built : IsBuilt (find_entry far) written own loops) where
    pub own_in : AreEntriesIn own
    own_in = entries_in written (find_entry far) built.kind here there written own here built.entries

    either_in : (o : Option Entry) (k : DeclKey) (e : Entry) → Inside k.path → find_entry far k ≡ o → find_entry (far ++ own) k ≡ Some e → IsEntryIn e
    either_in (Some x) k e h is found = there k e h (is ∙ (sym (adding.found far own k x is) ∙ found))
    either_in None k e h is found = find_in own k e own_in (sym (adding.added far own k is) ∙ found)

    pub both_in : (k : DeclKey) (e : Entry) → Inside k.path → find_entry (far ++ own) k ≡ Some e → IsEntryIn e
    both_in k e h found = either_in (find_entry far k) k e h refl found
