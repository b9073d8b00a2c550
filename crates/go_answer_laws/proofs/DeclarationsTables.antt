-- The fields and methods of a package's types are declared under their names where they have their places, where those that are written are.
use Rattle.std.proofs.Common.{◌≡◌, ℕ, Bool, true, false, List, [], ◌∷◌, ◌++◌, inl, inr, refl, sym, subst, ◌∙◌, if◌then◌else◌}
use Rattle.std.specs.Prelude.{Option, Some, None, ⊤, ◌||◌}
use Rattle.std.specs.List.{filter, enumerate_from}
use Rattle.std.specs.Str.{bytes_eq}
use Rattle.std.proofs.lemmas.Bool.{and_parts}
use Rattle.go_site_core.specs.text_core.Text.{is_blank}
use Rattle.go_site_core.specs.text_core.declared.span.Span.{Span}
use Rattle.go_tree_nodes.specs.declared.files.Receiver.{Receiver}
use Rattle.go_tree_nodes.specs.declared.types.TypeName.{TypeName}
use Rattle.go_tree_nodes.specs.Trees.{FuncTree, TypeSpecTree}
use Rattle.go_names_core.specs.block_core.Declarations.{decl_ref}
use Rattle.go_term_core.specs.decl_core.declared.keys.DeclKey.{DeclKey}
use Rattle.go_term_core.specs.decl_core.declared.places.DeclKind.{DeclKind}
use Rattle.go_term_core.specs.decl_core.declared.places.DeclKind.TheVariants as kinds_of
use Rattle.go_term_core.specs.decl_core.Outer.{Outer, rest_outers, signature_outers, type_outers}
use Rattle.go_stmt_core.specs.statement.Locality.{Each}
use Rattle.go_term_core.specs.declared.term.MemberPlace.{MemberPlace}
use Rattle.go_term_core.specs.declared.term.MemberPlace.TheVariants as places
use Rattle.go_term_core.specs.decl_core.TopDecls.{TopDeclTree, FormTree, ValueForm, TypeForm, FuncForm}
use Rattle.go_term_core.specs.Terms.{Term, Defined}
use Rattle.go_term_core.specs.declared.settling.kind.Kind.{Kind}
use Rattle.go_term_core.specs.declared.settling.kind.Kind.TheVariants as kinds
use Rattle.go_term_core.specs.settling.Settled.{is_among_names, kind_of_term}
use Rattle.go_value_core.specs.table_core.Entries.{Entry, EntryLook, Member, find_entry, same_key}
use Rattle.go_value_core.specs.table_core.Methods.{has_field_before}
use Rattle.go_typexpr_core.specs.type_core.declared.build.TypeFault.{TypeFault}
use Rattle.go_typexpr_core.specs.type_core.Built.{AreEntries, IsBuilt, IsEntry, IsUnderBy, IsUnderlying, unrepeated_methods, kept_over}
use Rattle.go_typexpr_core.specs.written.Written.{InFile, Meaning}
use Rattle.go_typexpr_core.specs.entry.Entries.{Meanings, Received, decl_methods, entries_with, entry_of, file_at, file_entries, file_methods, func_methods, is_listed, is_type_of, listed_entry, methods_received, package_methods, spec_entry, type_key}
use Rattle.go_typexpr_core.specs.entry.Marks.{alias_mark}
use Rattle.go_typexpr_core.specs.entry.Outlines.{FileOutline}
use Rattle.go_typexpr_core.proofs.EntryAmong.{Among, among_filter, among_flat, among_map}
use Rattle.go_answer_laws.proofs.DeclarationsLists.{either, same_bytes}
use Rattle.go_answer_laws.proofs.DeclarationsTerms.{IsSignIn, IsTermIn, IsPlacedIn, settled_in, settled_sign_in, signature_in, term_in}

-- what a declaration outside functions writes beside its name
abbrev pub form_outers : FormTree → List Outer
form_outers (ValueForm k v i) = rest_outers v
form_outers (TypeForm t) = type_outers t.type_expr
form_outers (FuncForm g) = signature_outers g.signature

module _ (Stands : List ℕ → List ℕ → MemberPlace → Type 0) where
  abbrev pub AreMembersIn : List ℕ → List Member → Type 0
  AreMembersIn home [] = ⊤
  AreMembersIn home (m ∷ ms) = Stands home m.name m.place × IsSignIn Stands m.sign × AreMembersIn home ms

  abbrev pub IsEntryIn : Entry → Type 0
  IsEntryIn e = IsTermIn Stands e.term × AreMembersIn e.key.path e.methods

  abbrev pub AreEntriesIn : List Entry → Type 0
  AreEntriesIn [] = ⊤
  AreEntriesIn (e ∷ es) = IsEntryIn e × AreEntriesIn es

  pub entries_both : (es fs : List Entry) → AreEntriesIn es → AreEntriesIn fs → AreEntriesIn (es ++ fs)
  entries_both [] fs h k = k
  entries_both (e ∷ es) fs h k = (h.0, entries_both es fs h.1 k)

  pub find_in : (es : List Entry) (k : DeclKey) (e : Entry) → AreEntriesIn es → find_entry es k ≡ Some e → IsEntryIn e
  find_in [] k e h is = absurd (let no : None ≡ Some e = is in cc)
  find_in (x ∷ es) k e h is = by (same_key x.key k) (λ rest. find_in es k e h.1 rest) is
    where
      by : (b : Bool) → (find_entry es k ≡ Some e → IsEntryIn e) → (if b then Some x else find_entry es k) ≡ Some e → IsEntryIn e
      by true rest same = subst IsEntryIn (let s : Some x ≡ Some e = same in let t : x ≡ e = cc in t) h.0
      by false rest same = rest same

  -- the methods of an entry that is found, by the path by which it is found
  pub found_members : (es : List Entry) (k : DeclKey) (e : Entry) → AreEntriesIn es → find_entry es k ≡ Some e → AreMembersIn k.path e.methods
  found_members [] k e h is = absurd (let no : None ≡ Some e = is in cc)
  found_members (x ∷ es) k e h is = by (same_key x.key k) refl (λ rest. found_members es k e h.1 rest) is
    where
      by : (b : Bool) → same_key x.key k ≡ b → (find_entry es k ≡ Some e → AreMembersIn k.path e.methods) → (if b then Some x else find_entry es k) ≡ Some e → AreMembersIn k.path e.methods
      by true s rest same =
          subst (λ (y : Entry). AreMembersIn k.path y.methods) (let s : Some x ≡ Some e = same in let t : x ≡ e = cc in t)
          (subst (λ (path : List ℕ). AreMembersIn path x.methods) (same_bytes x.key.path k.path (and_parts (bytes_eq x.key.path k.path) _ s).0) h.0.1)
      by false s rest same = rest same

  -- declarations as they are written

  -- its own name has its number, and the fields, methods and parameters of its types have their places
  pub record IsDeclIn (f : InFile) (d : TopDeclTree) : Type 0 where
    pub named : (k : DeclKind) → Stands f.path d.ident.name (places.Declared (decl_ref f.file d.number k))
    pub types : Each (IsPlacedIn Stands f) (form_outers d.form)

  all_in : (es : List Entry) → ((e : Entry) → Among es e → IsEntryIn e) → AreEntriesIn es
  all_in [] h = tt
  all_in (e ∷ es) h = (h e (inl refl), all_in es (λ x a. h x (inr a)))

  abbrev IsMemberIn : List ℕ → Member → Type 0
  IsMemberIn home m = Stands home m.name m.place × IsSignIn Stands m.sign

  members_in : (home : List ℕ) (ms : List Member) → ((m : Member) → Among ms m → IsMemberIn home m) → AreMembersIn home ms
  members_in home [] h = tt
  members_in home (m ∷ ms) h = (let k = h m (inl refl) in (k.0, k.1, members_in home ms (λ x a. h x (inr a))))

  abbrev IsReceivedIn : List ℕ → Received → Type 0
  IsReceivedIn home r = IsMemberIn home r.member

  methods_in : (home : List ℕ) (key : DeclKey) (rs : List Received) → ((r : Received) → Among rs r → IsReceivedIn home r) → AreMembersIn home (methods_received key rs)
  methods_in home key rs h =
      members_in home (methods_received key rs)
      (λ m at. (let r = among_map (λ (r : Received). r.member) (filter (λ (r : Received). is_type_of key r.base) rs) m at in
      let s = among_filter (λ (r : Received). is_type_of key r.base) rs r.0 r.1 in
      subst (λ (n : Member). IsMemberIn home n) r.2 (h r.0 s.0)))

  module _ (mean : Meaning) (f : InFile) (named : (n : TypeName) → IsTermIn Stands (mean n)) where
    func_in : (d : TopDeclTree) (g : FuncTree) (o : Option Receiver) (r : Received) → IsDeclIn f d → Each (IsPlacedIn Stands f) (signature_outers g.signature) → Among (func_methods mean f d g o) r → IsReceivedIn f.path r
    func_in d g None r own h at = absurd at
    func_in d g (Some receiver) r own h at = elim at [
      | inl e ↦ subst (IsReceivedIn f.path) e (own.named kinds_of.Method, signature_in Stands mean f named g.signature h)
      | inr none ↦ absurd none
    ]

    form_in : (d : TopDeclTree) (form : FormTree) (r : Received) → IsDeclIn f d → Each (IsPlacedIn Stands f) (form_outers form) → Among (decl_methods mean f d form) r → IsReceivedIn f.path r
    form_in d (ValueForm k v i) r own h at = absurd at
    form_in d (TypeForm t) r own h at = absurd at
    form_in d (FuncForm g) r own h at = func_in d g g.receiver r own h at

    file_methods_in : (ds : List TopDeclTree) → ((d : TopDeclTree) → Among ds d → IsDeclIn f d) → (r : Received) → Among (file_methods mean f ds) r → IsReceivedIn f.path r
    file_methods_in ds own r at =
        let d = among_flat (λ (d : TopDeclTree). decl_methods mean f d d.form) ds r at in
        let k = own d.0 d.1 in
        form_in d.0 d.0.form r k k.types d.2

    -- a type is one that counts where it is no alias
    listed_in : (mark : Option Span) (s e : Entry) → IsEntryIn s → Among (listed_entry (is_listed false mark) s) e → IsEntryIn e
    listed_in None s e h (inl same) = subst IsEntryIn same h
    listed_in None s e h (inr none) = absurd none
    listed_in (Some m) s e h at = absurd at

    module _ (rs : List Received) (received : (r : Received) → Among rs r → IsReceivedIn f.path r) where
      spec_in : (d : TopDeclTree) (t : TypeSpecTree) → Each (IsPlacedIn Stands f) (type_outers t.type_expr) → IsEntryIn (spec_entry mean f rs d t)
      spec_in d t h = (term_in Stands mean f named t.type_expr h, methods_in f.path (type_key f d.number) rs received)

      entry_of_in : (d : TopDeclTree) (form : FormTree) (e : Entry) → Each (IsPlacedIn Stands f) (form_outers form) → Among (entry_of mean f rs d form) e → IsEntryIn e
      entry_of_in d (ValueForm k v i) e h at = absurd at
      entry_of_in d (TypeForm t) e h at = listed_in (alias_mark t) (spec_entry mean f rs d t) e (spec_in d t h) at
      entry_of_in d (FuncForm g) e h at = absurd at

      file_entries_in : (ds : List TopDeclTree) → ((d : TopDeclTree) → Among ds d → IsDeclIn f d) → (e : Entry) → Among (file_entries mean f rs ds) e → IsEntryIn e
      file_entries_in ds own e at = (let d = among_flat (λ (d : TopDeclTree). entry_of mean f rs d d.form) ds e at in entry_of_in d.0 d.0.form e (own d.0 d.1).types d.2)

  -- the declarations of the files of a package
  abbrev pub AreDeclsIn : List ℕ → List FileOutline → Type 0
  AreDeclsIn path os = (q : ℕ × FileOutline) → Among (enumerate_from 0 os) q → (d : TopDeclTree) → Among q.1.decls d → IsDeclIn (file_at path q.0 q.1) d

  module _ (means : Meanings) (path : List ℕ) (os : List FileOutline) (named : (file : ℕ) (n : TypeName) → IsTermIn Stands (means file n)) (own : AreDeclsIn path os) where
    received_in : (r : Received) → Among (package_methods means path os) r → IsReceivedIn path r
    received_in r at =
        let q = among_flat (λ (q : ℕ × FileOutline). file_methods (means q.0) (file_at path q.0 q.1) q.1.decls) (enumerate_from 0 os) r at in
        file_methods_in (means q.0.0) (file_at path q.0.0 q.0.1) (named q.0.0) q.0.1.decls (own q.0 q.1) r q.2

    pub written_in : AreEntriesIn (entries_with means path (package_methods means path os) os)
    written_in =
        let rs = package_methods means path os in
        all_in (entries_with means path rs os)
        (λ e at. (let q = among_flat (λ (q : ℕ × FileOutline). file_entries (means q.0) (file_at path q.0 q.1) rs q.1.decls) (enumerate_from 0 os) e at in
        file_entries_in (means q.0.0) (file_at path q.0.0 q.0.1) (named q.0.0) rs received_in q.0.1.decls (own q.0 q.1) e q.2))

  -- once they are settled

  kept_in : (home : List ℕ) (kind : DeclKey → Kind) (path : List ℕ) (u : Term) (seen : List (List ℕ)) (ms : List Member) → AreMembersIn home ms → AreMembersIn home (unrepeated_methods kind path u seen ms)
  kept_in home kind path u seen [] h = h
  kept_in home kind path u seen (m ∷ ms) h =
      either (AreMembersIn home) (is_blank m.name || (is_among_names seen m.name || has_field_before path u m)) _ _ (kept_in home kind path u seen ms h.2)
      (h.0, settled_sign_in Stands kind m.sign h.1, kept_in home kind path u (m.name ∷ seen) ms h.2)

  kept_over_in : (home : List ℕ) (k : Kind) (kind : DeclKey → Kind) (path : List ℕ) (u : Term) (ms : List Member) → AreMembersIn home ms → AreMembersIn home (kept_over k kind path u ms)
  kept_over_in home kinds.Nothing kind path u ms h = kept_in home kind path u [] ms h
  kept_over_in home kinds.Pointer kind path u ms h = tt
  kept_over_in home kinds.Interface kind path u ms h = tt
  kept_over_in home kinds.Other kind path u ms h = kept_in home kind path u [] ms h

  module _ (written : List Entry) (far : EntryLook) (kind : DeclKey → Kind) (here : AreEntriesIn written) (there : (k : DeclKey) (e : Entry) → far k ≡ Some e → IsEntryIn e) where
    under_in : (t : Term) (through : List DeclKey) (u : Term) → IsTermIn Stands t → IsUnderBy written far kind t through u → IsTermIn Stands u
    under_in t [] u h (inl x) = subst (IsTermIn Stands) (sym x.1) (settled_in Stands kind t h)
    under_in t [] u h (inr x) = subst (IsTermIn Stands) (sym x.5) (there x.0 x.1 x.4).0
    under_in t (k ∷ ks) u h x = under_in x.1.0.term ks u (find_in written k x.1.0 here x.1.1).0 x.1.2

    underlying_in : (k : DeclKey) (u : Term) → IsUnderlying written far kind k u → IsTermIn Stands u
    underlying_in k u (inl x) = subst (IsTermIn Stands) (sym x.1) tt
    underlying_in k u (inr x) = under_in (Defined k) x.1.0 u tt x.1.1

    entry_in : (w e : Entry) → IsEntryIn w → IsEntry written far kind w e → IsEntryIn e
    entry_in w e h x = (
      underlying_in w.key e.term x.term,
      subst (λ (k : DeclKey). AreMembersIn k.path e.methods) (sym x.key) (subst (AreMembersIn w.key.path) (sym x.methods) (kept_over_in w.key.path (kind_of_term e.term) kind w.key.path e.term w.methods h.1)),
    )

    entries_in : (ws es : List Entry) → AreEntriesIn ws → AreEntries written far kind ws es → AreEntriesIn es
    entries_in [] [] h x = tt
    entries_in [] (e ∷ es) h x = absurd x
    entries_in (w ∷ ws) [] h x = absurd x
    entries_in (w ∷ ws) (e ∷ es) h x = (entry_in w e h.0 x.0, entries_in ws es h.1 x.1)

  -- a package's types, over what is known of others
  pub own_in : (far written own : List Entry) (loops : List TypeFault) → AreEntriesIn written → AreEntriesIn far → IsBuilt (find_entry far) written own loops → AreEntriesIn own
  own_in far written own loops here there built = entries_in written (find_entry far) built.kind here (λ k e is. find_in far k e there is) written own here built.entries
