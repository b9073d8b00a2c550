-- The faults of the types of a package are the same over two tables that have the same of the packages that are led to.
use Rattle.std.proofs.Common.{◌≡◌, ℕ, List, [], ◌∷◌, ◌++◌, ◌&&◌, ◌||◌, not, false, inl, inr, if◌then◌else◌, refl, sym, ap, ◌∙◌}
use Rattle.std.specs.Prelude.{Option, Some, None, Contains}
use Rattle.std.specs.Str.{bytes_eq}
use Rattle.std.specs.List.{flat_map, enumerate_from}
use Rattle.std.proofs.lemmas.List.{append-nil}
use Rattle.std.proofs.lemmas.List.Elements.{Contains-push, Contains-append_left, Contains-append_right, Contains-append_cases}
use Rattle.go_tree_nodes.specs.declared.files.Receiver.{Receiver}
use Rattle.go_tree_nodes.specs.declared.types.TypeName.{TypeName}
use Rattle.go_path_core.specs.text_core.Text.{is_blank}
use Rattle.go_path_core.specs.text_core.declared.rule.Rule.TheVariants.{B5, B6}
use Rattle.go_tree_nodes.specs.Starts.{type_name_start}
use Rattle.go_term_core.specs.decl_core.declared.keys.DeclKey.{DeclKey}
use Rattle.go_term_core.specs.decl_core.declared.keys.DeclRef.{DeclRef}
use Rattle.go_term_core.specs.decl_core.TopDecls.{TopDeclTree, FormTree, ValueForm, TypeForm, FuncForm}
use Rattle.go_term_core.specs.declared.term.MemberPlace.{MemberPlace}
use Rattle.go_term_core.specs.Terms.{Term, NoType, Predeclared, ErrorType, Defined, PointerTo, StructOf, InterfaceOf, AMethod, NoMethod, Sign, is_no_type, term_keys, sign_keys}
use Rattle.go_term_core.specs.declared.settling.kind.Kind.{Kind}
use Rattle.go_term_core.specs.settling.Settled.{kind_of_term, is_among_names}
use Rattle.go_body_core.specs.table_core.Entries.{Entry, Member, find_entry, members_keys, term_in}
use Rattle.go_body_core.specs.table_core.Methods.{has_field_before}
use Rattle.go_select_core.specs.type_core.declared.build.TypeFault.{TypeFault}
use Rattle.go_select_core.specs.embed_core.Faults.{can_be_base, declared_faults, member_fault_if, hidden_faults, sign_faults, term_faults}
use Rattle.go_select_core.specs.embed_core.Telling.{faults_local}
use Rattle.go_body_core.specs.typexpr_core.EntryEntries.{Meanings}
use Rattle.go_body_core.specs.typexpr_core.EntryOutlines.{FileOutline}
use Rattle.go_body_core.specs.typexpr_core.EntryAmong.{Among}
use Rattle.go_report_core.specs.type_faults.Places.{all_located, fault_in}
use Rattle.go_report_core.specs.type_faults.TypeFaults.{alias_faults, entries_faults, entry_faults, faults_of_types, form_fault, loops_faults, met_in, met_type, received_fault, receivers_faults, type_base_fault}
use Rattle.go_snap_core.proofs.WholeWorkspaceNames.{AllInside, none_inside}
use Rattle.go_snap_core.proofs.WholeWorkspaceTypes.{IsEntryInside}
use Rattle.go_term_core.specs.settling.Settled.{can_be_pointed}
use Rattle.go_body_core.specs.table_core.Entries.{kinds_in}

module _ (Inside : List ℕ → Type 0) (es fs : List Entry) (same : (k : DeclKey) → Inside k.path → find_entry es k ≡ find_entry fs k) where
  kind_same : (k : DeclKey) → Inside k.path → kinds_in es k ≡ kinds_in fs k
  kind_same k h = ap (λ (o : Option Entry). kind_of_term (term_in o)) (same k h)

  kinds_same : (ks : List DeclKey) → AllInside Inside ks → (k : DeclKey) → Contains ks k → kinds_in es k ≡ kinds_in fs k
  kinds_same ks h k at = kind_same k (h k at)

  term_same : (t : Term) → AllInside Inside (term_keys t) → term_faults (kinds_in es) t ≡ term_faults (kinds_in fs) t
  term_same t h = faults_local (kinds_in es) (kinds_in fs) t (kinds_same (term_keys t) h)

  -- a signature is that of the one method of an interface type
  lone_keys : (g : Sign) → AllInside Inside (sign_keys g) → AllInside Inside (sign_keys g ++ [])
  lone_keys g h = λ k at. elim (Contains-append_cases (sign_keys g) [] k at) [ inl here ↦ h k here | inr none ↦ none_inside Inside k none ]

  sign_same : (place : MemberPlace) (g : Sign) → AllInside Inside (sign_keys g) → sign_faults (kinds_in es) g ≡ sign_faults (kinds_in fs) g
  sign_same place g h =
      sym (append-nil (sign_faults (kinds_in es) g))
      ∙ (term_same (InterfaceOf [] (AMethod [] place g NoMethod)) (lone_keys g h)
      ∙ append-nil (sign_faults (kinds_in fs) g))

  declared_same : (path : List ℕ) (u : Term) (seen : List (List ℕ)) (ms : List Member) → AllInside Inside (members_keys ms) → declared_faults (kinds_in es) path u seen ms ≡ declared_faults (kinds_in fs) path u seen ms
  declared_same path u seen [] h = refl
  declared_same path u seen (m ∷ ms) h =
      let first = sign_same m.place m.sign (λ k at. h k (Contains-append_left (sign_keys m.sign) (members_keys ms) k at)) in
      let rest = declared_same path u (m.name ∷ seen) ms (λ k at. h k (Contains-append_right (sign_keys m.sign) (members_keys ms) k at)) in
      λ j. member_fault_if (not (is_blank m.name) && (is_among_names seen m.name || has_field_before path u m)) m.place B5 ++ (first j ++ rest j)

  met_same : (e : Entry) → Inside e.key.path → met_in es e ≡ met_in fs e
  met_same e h = ap (λ (o : Option Entry). met_type (term_in o) e.term) (same e.key h)

  entry_same : (path : List ℕ) (os : List FileOutline) (e : Entry) → IsEntryInside Inside e → entry_faults es path os e ≡ entry_faults fs path os e
  entry_same path os e h =
      let types = term_same e.term (λ k at. h.1 k (Contains-append_left (term_keys e.term) (members_keys e.methods) k at)) in
      let methods = declared_same path (met_in es e) [] e.methods (λ k at. h.1 k (Contains-append_right (term_keys e.term) (members_keys e.methods) k at)) in
      let met = met_same e h.0 in
      (λ j. (all_located os (types j) ++ all_located os (methods j)) ++ all_located os (hidden_faults path (met_in es e) e.methods))
      ∙ (λ j. (all_located os (term_faults (kinds_in fs) e.term) ++ all_located os (declared_faults (kinds_in fs) path (met j) [] e.methods)) ++ all_located os (hidden_faults path (met j) e.methods))

  entries_same : (path : List ℕ) (os : List FileOutline) (ws : List Entry) → ((e : Entry) → Among ws e → IsEntryInside Inside e) → entries_faults es path os ws ≡ entries_faults fs path os ws
  entries_same path os [] h = refl
  entries_same path os (w ∷ ws) h =
      let first = entry_same path os w (h w (inl refl)) in
      let rest = entries_same path os ws (λ e a. h e (inr a)) in
      λ j. first j ++ rest j

  -- receivers

  base_same : (path : List ℕ) (t : Term) → AllInside Inside (term_keys t) → can_be_base (kinds_in es) path t ≡ can_be_base (kinds_in fs) path t
  base_same path NoType h = refl
  base_same path (Predeclared b) h = refl
  base_same path ErrorType h = refl
  base_same path (Defined k) h = ap (λ (kind : Kind). bytes_eq k.path path && can_be_pointed kind) (kind_same k (h k (Contains-push [] k)))
  base_same path (PointerTo t) h = refl
  base_same path (StructOf p fields) h = refl
  base_same path (InterfaceOf p ms) h = refl

  type_base_same : (path : List ℕ) (file offset : ℕ) (t : Term) → AllInside Inside (term_keys t) → type_base_fault es path file offset t ≡ type_base_fault fs path file offset t
  type_base_same path file offset t h = λ j. if (if is_no_type t then false else base_same path t h j) then [] else fault_in file offset B6 ∷ []

  module _ (raws means : Meanings) (near : (file : ℕ) (n : TypeName) → AllInside Inside (term_keys (means file n))) (path : List ℕ) where
    received_same : (file : ℕ) (o : Option Receiver) → received_fault es (raws file) (means file) path file o ≡ received_fault fs (raws file) (means file) path file o
    received_same file None = refl
    received_same file (Some r) = λ j. if is_no_type (raws file r.base) then [] else type_base_same path file (type_name_start r.base) (means file r.base) (near file r.base) j

    receiver_same : (file : ℕ) (form : FormTree) → form_fault es (raws file) (means file) path file form ≡ form_fault fs (raws file) (means file) path file form
    receiver_same file (ValueForm k v i) = refl
    receiver_same file (TypeForm t) = refl
    receiver_same file (FuncForm g) = received_same file g.receiver

    receivers_same : (os : List FileOutline) → receivers_faults es raws means path os ≡ receivers_faults fs raws means path os
    receivers_same os = λ j. flat_map (λ (q : ℕ × FileOutline). flat_map (λ (d : TopDeclTree). receiver_same q.0 d.form j) q.1.decls) (enumerate_from 0 os)

    pub faults_same : (os : List FileOutline) (ws : List Entry) (looped : List DeclRef) (loops : List TypeFault) → ((e : Entry) → Among ws e → IsEntryInside Inside e)
        → faults_of_types es raws means path os ws looped loops ≡ faults_of_types fs raws means path os ws looped loops
    faults_same os ws looped loops h = λ j. ((loops_faults os ws loops ++ alias_faults os looped) ++ entries_same path os ws h j) ++ receivers_same os j
