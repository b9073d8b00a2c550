-- The types of a package mention types of the packages that are led to, and are the same over any that know the same of these.
use Rattle.std.proofs.Common.{◌≡◌, ◌⊎◌, ℕ, Bool, true, false, List, [], ◌∷◌, ◌++◌, inl, inr, refl, sym, subst, ◌∙◌, arith}
use Rattle.std.specs.Prelude.{Option, Some, None, Contains}
use Rattle.std.specs.List.{filter, enumerate_from}
use Rattle.std.proofs.lemmas.List.Elements.{Contains-append_left, Contains-append_cases}
use Rattle.go_tree_nodes.specs.declared.files.Receiver.{Receiver}
use Rattle.go_tree_nodes.specs.declared.types.TypeName.{TypeName}
use Rattle.go_tree_nodes.specs.Trees.{FuncTree, TypeSpecTree}
use Rattle.go_term_core.specs.decl_core.declared.keys.DeclKey.{DeclKey}
use Rattle.go_term_core.specs.decl_core.TopDecls.{TopDeclTree, FormTree, ValueForm, TypeForm, FuncForm}
use Rattle.go_term_core.specs.Terms.{term_keys, sign_keys}
use Rattle.go_body_core.specs.table_core.Entries.{Entry, Member, find_entry, entry_keys, members_keys}
use Rattle.go_body_core.specs.table_core.ByRule.{adding}
use Rattle.go_select_core.specs.type_core.declared.build.TypeFault.{TypeFault}
use Rattle.go_select_core.specs.type_core.Built.{IsBuilt}
use Rattle.go_select_core.specs.type_core.Laws.{written_keys}
use Rattle.go_select_core.specs.type_core.Elsewhere.{found_in, building_is_local}
use Rattle.go_select_core.specs.type_core.Mentioned.{built_mentions_written}
use Rattle.go_body_core.specs.typexpr_core.WrittenWritten.{InFile, Meaning, term_of}
use Rattle.go_body_core.specs.typexpr_core.WrittenByNames.{written_by_names}
use Rattle.go_body_core.specs.typexpr_core.EntryEntries.{Meanings, Received, decl_methods, entries_with, entry_of, file_at, file_entries, file_methods, func_methods, is_listed, is_type_of, listed_entry, methods_received, package_methods, spec_entry, type_key}
use Rattle.go_body_core.specs.typexpr_core.EntryOutlines.{FileOutline}
use Rattle.go_body_core.specs.typexpr_core.EntryAmong.{Among, among_flat, among_map, among_filter}
use Rattle.go_snap_core.specs.near.Tables.{Nearby, AgreeOn}
use Rattle.go_snap_core.proofs.WholeWorkspaceNames.{AllInside}

-- what is near: types of some packages, and these packages
abbrev pub near_of : (List ℕ → Type 0) → Nearby
near_of Inside = record { types = λ k. Inside k.path; packages = Inside }

module _ (Inside : List ℕ → Type 0) where
  -- an entry of one of these packages that mentions types of these alone
  abbrev pub IsEntryInside : Entry → Type 0
  IsEntryInside e = Inside e.key.path × AllInside Inside (entry_keys e)

  -- methods

  pub members_inside : (ms : List Member) → ((m : Member) → Among ms m → AllInside Inside (sign_keys m.sign)) → AllInside Inside (members_keys ms)
  members_inside [] h = λ k at. absurd (omega (arith, at.1))
  members_inside (m ∷ ms) h = λ k at. elim (Contains-append_cases (sign_keys m.sign) (members_keys ms) k at) [
    | inl here ↦ h m (inl refl) k here
    | inr there ↦ members_inside ms (λ n a. h n (inr a)) k there
  ]

  abbrev pub IsReceivedInside : Received → Type 0
  IsReceivedInside r = AllInside Inside (sign_keys r.member.sign)

  methods_inside : (key : DeclKey) (rs : List Received) → ((r : Received) → Among rs r → IsReceivedInside r) → (m : Member) → Among (methods_received key rs) m → AllInside Inside (sign_keys m.sign)
  methods_inside key rs h m at =
      let r = among_map (λ (r : Received). r.member) (filter (λ (r : Received). is_type_of key r.base) rs) m at in
      let s = among_filter (λ (r : Received). is_type_of key r.base) rs r.0 r.1 in
      subst (λ (n : Member). AllInside Inside (sign_keys n.sign)) r.2 (h r.0 s.0)

  module _ (mean : Meaning) (f : InFile) (near : (n : TypeName) → AllInside Inside (term_keys (mean n))) (own : Inside f.path) where
    func_inside : (d : TopDeclTree) (g : FuncTree) (o : Option Receiver) (r : Received) → Among (func_methods mean f d g o) r → IsReceivedInside r
    func_inside d g None r at = absurd at
    func_inside d g (Some receiver) r at = elim at [
      | inl e ↦ subst IsReceivedInside e (λ k h. (let m = written_by_names.mentioned_in_signature mean f g.signature k h in near m.0 k m.2))
      | inr none ↦ absurd none
    ]

    form_inside : (d : TopDeclTree) (form : FormTree) (r : Received) → Among (decl_methods mean f d form) r → IsReceivedInside r
    form_inside d (ValueForm k v i) r at = absurd at
    form_inside d (TypeForm t) r at = absurd at
    form_inside d (FuncForm g) r at = func_inside d g g.receiver r at

    pub file_methods_inside : (ds : List TopDeclTree) (r : Received) → Among (file_methods mean f ds) r → IsReceivedInside r
    file_methods_inside ds r at = (let d = among_flat (λ (d : TopDeclTree). decl_methods mean f d d.form) ds r at in form_inside d.0 d.0.form r d.2)

    module _ (rs : List Received) (received : (r : Received) → Among rs r → IsReceivedInside r) where
      spec_inside : (d : TopDeclTree) (t : TypeSpecTree) → IsEntryInside (spec_entry mean f rs d t)
      spec_inside d t = (
        own,
        λ k h. elim (Contains-append_cases (term_keys (term_of mean f t.type_expr)) (members_keys (methods_received (type_key f d.number) rs)) k h) [
          | inl here ↦ (let m = written_by_names.mentioned mean f t.type_expr k here in near m.0 k m.2)
          | inr there ↦ members_inside (methods_received (type_key f d.number) rs) (methods_inside (type_key f d.number) rs received) k there
        ],
      )

      -- an alias is no entry
      listed_inside : (listed : Bool) (w e : Entry) → IsEntryInside w → Among (listed_entry listed w) e → IsEntryInside e
      listed_inside true w e h at = elim at [
        | inl same ↦ subst IsEntryInside same h
        | inr none ↦ absurd none
      ]
      listed_inside false w e h at = absurd at

      entry_inside : (d : TopDeclTree) (form : FormTree) (e : Entry) → Among (entry_of mean f rs d form) e → IsEntryInside e
      entry_inside d (ValueForm k v i) e at = absurd at
      entry_inside d (TypeForm t) e at = listed_inside (is_listed false t.alias) (spec_entry mean f rs d t) e (spec_inside d t) at
      entry_inside d (FuncForm g) e at = absurd at

      pub file_entries_inside : (ds : List TopDeclTree) (e : Entry) → Among (file_entries mean f rs ds) e → IsEntryInside e
      file_entries_inside ds e at = (let d = among_flat (λ (d : TopDeclTree). entry_of mean f rs d d.form) ds e at in entry_inside d.0 d.0.form e d.2)

  -- packages

  module _ (means : Meanings) (path : List ℕ) (os : List FileOutline) (near : (file : ℕ) (n : TypeName) → AllInside Inside (term_keys (means file n))) (own : Inside path) where
    received_inside : (r : Received) → Among (package_methods means path os) r → IsReceivedInside r
    received_inside r at =
        let q = among_flat (λ (q : ℕ × FileOutline). file_methods (means q.0) (file_at path q.0 q.1) q.1.decls) (enumerate_from 0 os) r at in
        file_methods_inside (means q.0.0) (file_at path q.0.0 q.0.1) (near q.0.0) own q.0.1.decls r q.2

    pub entries_inside : (e : Entry) → Among (entries_with means path (package_methods means path os) os) e → IsEntryInside e
    entries_inside e at =
        let rs = package_methods means path os in
        let q = among_flat (λ (q : ℕ × FileOutline). file_entries (means q.0) (file_at path q.0 q.1) rs q.1.decls) (enumerate_from 0 os) e at in
        file_entries_inside (means q.0.0) (file_at path q.0.0 q.0.1) (near q.0.0) own rs received_inside q.0.1.decls e q.2

  pub written_inside : (ws : List Entry) → ((e : Entry) → Among ws e → IsEntryInside e) → AllInside Inside (written_keys ws)
  written_inside [] h = λ k at. absurd (omega (arith, at.1))
  written_inside (w ∷ ws) h = λ k at. elim (Contains-append_cases (entry_keys w) (written_keys ws) k at) [
    | inl here ↦ (h w (inl refl)).1 k here
    | inr there ↦ written_inside ws (λ e a. h e (inr a)) k there
  ]

  -- tables: what is known of others, with the types of the package

  module _ (far other written own : List Entry) (loops : List TypeFault) (inside : AllInside Inside (written_keys written)) (built : IsBuilt (find_entry far) written own loops)
      (mentions : (k : DeclKey) (e : Entry) → Inside k.path → find_entry far k ≡ Some e → AllInside Inside (entry_keys e)) where
    pub own_inside : (e : Entry) → Contains own e → AllInside Inside (entry_keys e)
    own_inside e there = λ j at. elim (built_mentions_written (find_entry far) written own loops built e there j at) [
      | inl here ↦ inside j here
      | inr x ↦ mentions x.0 x.1 (inside x.0 x.2) x.3 j (Contains-append_left (term_keys x.1.term) (members_keys x.1.methods) j x.4)
    ]

    closed_by : (o : Option Entry) (k : DeclKey) (e : Entry) → Inside k.path → find_entry far k ≡ o → find_entry (far ++ own) k ≡ Some e → AllInside Inside (entry_keys e)
    closed_by (Some x) k e h is found = mentions k e h (is ∙ (sym (adding.found far own k x is) ∙ found))
    closed_by None k e h is found = own_inside e (found_in own k e (sym (adding.added far own k is) ∙ found))

    module _ (alike : (k : DeclKey) → Inside k.path → find_entry far k ≡ find_entry other k) where
      pub built_over : IsBuilt (find_entry other) written own loops
      built_over = building_is_local (find_entry far) (find_entry other) written own loops (λ k h none. alike k (inside k h)) built

      same_by : (o : Option Entry) (k : DeclKey) → Inside k.path → find_entry far k ≡ o → find_entry (far ++ own) k ≡ find_entry (other ++ own) k
      same_by (Some x) k h is = adding.found far own k x is ∙ sym (adding.found other own k x (sym (alike k h) ∙ is))
      same_by None k h is = adding.added far own k is ∙ sym (adding.added other own k (sym (alike k h) ∙ is))

      pub agree : AgreeOn (near_of Inside) (far ++ own) (other ++ own)
      agree = record {
        same = λ k h. same_by (find_entry far k) k h refl;
        closed = λ k e h is j at. closed_by (find_entry far k) k e h refl is j at;
      }
