-- What declarations are as they are written, by what is looked at.
use Rattle.std.proofs.Common.{◌≡◌, ℕ, inl, inr, not, List, [], ◌∷◌, ◌++◌, map, Option, Some, None, if◌then◌else◌, refl, sym, ap, ◌∙◌, arith}
use Rattle.std.specs.Prelude.{slice_get, Contains}
use Rattle.std.specs.List.{flat_map, enumerate_from}
use Rattle.std.proofs.lemmas.List.Elements.{Contains-push}
use Rattle.go_collections_core.specs.text_core.declared.span.Span.{Span}
use Rattle.go_tree_nodes.specs.declared.decls.ValueKind.{ValueKind}
use Rattle.go_tree_nodes.specs.declared.decls.ValueKind.TheVariants as value_kinds
use Rattle.go_tree_nodes.specs.declared.types.TypeName.{TypeName}
use Rattle.go_tree_nodes.specs.Trees.{TypeTree, TypeSpecTree, SignatureTree}
use Rattle.go_term_core.specs.decl_core.declared.keys.DeclKey.{DeclKey}
use Rattle.go_term_core.specs.decl_core.TopDecls.{TopDeclTree, FormTree, ValueForm, TypeForm, FuncForm, kind_of_form}
use Rattle.go_block_core.specs.Blocks.{BlocksModel}
use Rattle.go_term_core.specs.settling.Settled.{kind_of_term, settled, settled_sign}
use Rattle.go_term_core.proofs.SettlingLocal.{settling_is_local, sign_alike}
use Rattle.go_term_core.proofs.SettlingMentions.{settled_mentions_written}
use Rattle.go_term_core.specs.Terms.{Term, NoType, Predeclared, ErrorType, Defined, PointerTo, StructOf, InterfaceOf, is_no_type, term_keys, sign_keys}
use Rattle.go_handle_core.specs.table_core.Entries.{Entry, find_entry, term_in}
use Rattle.go_typexpr_core.specs.written.Written.{InFile, Meaning, term_of, signature_of}
use Rattle.go_typexpr_core.proofs.WrittenByNames.{written_by_names}
use Rattle.go_handle_core.specs.deciding.Rules.{typed}
use Rattle.go_typexpr_core.specs.entry.Entries.{file_at, type_key}
use Rattle.go_typexpr_core.specs.entry.Marks.{alias_mark}
use Rattle.go_typexpr_core.specs.entry.Meanings.{Shows, file_meaning}
use Rattle.go_typexpr_core.specs.entry.Outlines.{FileOutline}
use Rattle.go_typexpr_core.proofs.EntryAmong.{Among, among_from, among_to, flat_among, among_numbered}
use Rattle.go_declared_core.specs.declared.face.Face.TheVariants as faces
use Rattle.go_declared_core.specs.Faces.{variable_face}
use Rattle.go_declared_core.specs.Laws.{LookAlike, MeanAlikeInFaces, WrittenAreLocal}
use Rattle.go_declared_core.specs.Names.{value_names, alias_names, face_names, names_faced}
use Rattle.go_declared_core.specs.Written.{type_written, value_as_written, declared_face, form_as_written, written_of, file_written, package_written}
use Rattle.go_block_core.specs.Declarations.{decl_ref}
use Rattle.go_handle_core.specs.table_core.Entries.{kinds_in}
use Rattle.go_tree_nodes.specs.TypeNames.{type_names_in, signature_names_in}

-- lists

map_alike : {A B : Type 0} (f g : A → B) (xs : List A) → ((x : A) → Among xs x → f x ≡ g x) → map f xs ≡ map g xs
map_alike f g [] h = refl
map_alike f g (x ∷ xs) h =
    let first = h x (inl refl) in
    let rest = map_alike f g xs (λ y a. h y (inr a)) in
    λ i. first i ∷ rest i

flat_alike : {A B : Type 0} (f g : A → List B) (xs : List A) → ((x : A) → Among xs x → f x ≡ g x) → flat_map f xs ≡ flat_map g xs
flat_alike f g [] h = refl
flat_alike f g (x ∷ xs) h =
    let first = h x (inl refl) in
    let rest = flat_alike f g xs (λ y a. h y (inr a)) in
    λ i. first i ++ rest i

-- types by two tables

module _ (es fs : List Entry) where
  abbrev Same : List DeclKey → Type 0
  Same ks = (k : DeclKey) → Contains ks k → find_entry es k ≡ find_entry fs k

  typed_alike : (t : Term) → Same (term_keys t) → typed (find_entry es) t ≡ typed (find_entry fs) t
  typed_alike NoType h = refl
  typed_alike (Predeclared b) h = refl
  typed_alike ErrorType h = refl
  typed_alike (Defined k) h = ap (λ (o : Option Entry). if not (is_no_type (term_in o)) then Some (Defined k) else None) (h k (Contains-push [] k))
  typed_alike (PointerTo t) h = refl
  typed_alike (StructOf path fields) h = refl
  typed_alike (InterfaceOf path ms) h = refl

  kinds_alike : (ks : List DeclKey) → Same ks → (k : DeclKey) → Contains ks k → kinds_in es k ≡ kinds_in fs k
  kinds_alike ks h k c = ap (λ (o : Option Entry). kind_of_term (term_in o)) (h k c)

  settled_alike : (t : Term) → Same (term_keys t) → typed (find_entry es) (settled (kinds_in es) t) ≡ typed (find_entry fs) (settled (kinds_in fs) t)
  settled_alike t h =
      ap (typed (find_entry es)) (settling_is_local (kinds_in es) (kinds_in fs) t (kinds_alike (term_keys t) h))
      ∙ typed_alike (settled (kinds_in fs) t) (λ k c. h k (settled_mentions_written (kinds_in fs) t k c).1)

  module _ (mean other : Meaning) (f : InFile) where
    abbrev Means : List TypeName → Type 0
    Means ns = (x : TypeName) → Contains ns x → mean x ≡ other x

    abbrev Looks : List TypeName → Type 0
    Looks ns = (x : TypeName) (k : DeclKey) → Contains ns x → Contains (term_keys (mean x)) k → find_entry es k ≡ find_entry fs k

    type_alike : (t : TypeTree) → Means (type_names_in t) → Looks (type_names_in t) → type_written mean f es t ≡ type_written other f fs t
    type_alike t m l =
        settled_alike (term_of mean f t) (λ k c. (let n = written_by_names.mentioned mean f t k c in l n.0 k n.1 n.2))
        ∙ ap (λ u. typed (find_entry fs) (settled (kinds_in fs) u)) (written_by_names.types mean other f t m)

    signature_alike : (g : SignatureTree) → Means (signature_names_in g) → Looks (signature_names_in g) → settled_sign (kinds_in es) (signature_of mean f g) ≡ settled_sign (kinds_in fs) (signature_of other f g)
    signature_alike g m l =
        sign_alike (kinds_in es) (kinds_in fs) (signature_of mean f g)
        (kinds_alike (sign_keys (signature_of mean f g)) (λ k c. (let n = written_by_names.mentioned_in_signature mean f g k c in l n.0 k n.1 n.2)))
        ∙ ap (settled_sign (kinds_in fs)) (written_by_names.signatures mean other f g m)

    value_alike : (k : ValueKind) (t : Option TypeTree) → Means (value_names k t) → Looks (value_names k t) → value_as_written mean f es k t ≡ value_as_written other f fs k t
    value_alike value_kinds.Var (Some t) m l = ap (λ u. Some (variable_face u)) (type_alike t m l)
    value_alike value_kinds.Var None m l = refl
    value_alike value_kinds.Const t m l = refl

    declared_alike : (n : ℕ) (mark : Option Span) (t : TypeTree) → find_entry es (type_key f n) ≡ find_entry fs (type_key f n) → Means (alias_names mark t) → Looks (alias_names mark t)
        → declared_face mark mean f es n t ≡ declared_face mark other f fs n t
    declared_alike n None t own m l = ap (λ (o : Option Entry). faces.«Type» (if not (is_no_type (term_in o)) then Some (Defined (type_key f n)) else None)) own
    declared_alike n (Some mark) t own m l = ap (λ (u : Option Term). faces.«Type» u) (type_alike t m l)

    form_alike : (n : ℕ) (form : FormTree) → ((t : TypeSpecTree) → form ≡ TypeForm t → find_entry es (type_key f n) ≡ find_entry fs (type_key f n)) → Means (face_names form) → Looks (face_names form)
        → form_as_written mean f es n form ≡ form_as_written other f fs n form
    form_alike n (ValueForm k v i) own m l = value_alike k v.type_expr m l
    form_alike n (TypeForm t) own m l = ap Some (declared_alike n (alias_mark t) t.type_expr (own t refl) m l)
    form_alike n (FuncForm g) own m l = ap (λ s. Some (faces.Func s)) (signature_alike g.signature m l)

    decl_alike : (d : TopDeclTree) → ((t : TypeSpecTree) → d.form ≡ TypeForm t → find_entry es (type_key f d.number) ≡ find_entry fs (type_key f d.number)) → Means (face_names d.form) → Looks (face_names d.form)
        → written_of mean f es d ≡ written_of other f fs d
    decl_alike d own m l = (let face = form_alike d.number d.form own m l in λ i. record { decl = decl_ref f.file d.number (kind_of_form d.form); face = face i })

-- files

name_faced : (o : FileOutline) (d : TopDeclTree) (x : TypeName) → Among o.decls d → Contains (face_names d.form) x → Contains (names_faced o) x
name_faced o d x a c = among_to (names_faced o) x (flat_among (λ (e : TopDeclTree). face_names e.form) o.decls x d a (among_from (face_names d.form) x c))

module _ (shows other : Shows) (path : List ℕ) (b c : BlocksModel) (es fs : List Entry) (os : List FileOutline) (m : MeanAlikeInFaces shows other path b c os) (l : LookAlike shows path b es fs os) where
  file_alike : (n : ℕ) (o : FileOutline) → slice_get os n ≡ Some o
      → file_written (file_meaning shows path b n) (file_at path n o) es o.decls ≡ file_written (file_meaning other path c n) (file_at path n o) fs o.decls
  file_alike n o there =
      map_alike (written_of (file_meaning shows path b n) (file_at path n o) es) (written_of (file_meaning other path c n) (file_at path n o) fs) o.decls
      (λ d a. decl_alike es fs (file_meaning shows path b n) (file_meaning other path c n) (file_at path n o) d
      (λ t form. l.own n o d t (there, among_to o.decls d a) form)
      (λ x in_form. m n o x there (name_faced o d x a in_form))
      (λ x k in_form mentioned. l.named n o x k there (name_faced o d x a in_form) mentioned))

  package_alike : package_written shows path b es os ≡ package_written other path c fs os
  package_alike =
      flat_alike (λ p. file_written (file_meaning shows path b p.0) (file_at path p.0 p.1) es p.1.decls) (λ p. file_written (file_meaning other path c p.0) (file_at path p.0 p.1) fs p.1.decls) (enumerate_from 0 os)
      (λ p a. (
      let n = among_numbered 0 os p a in
      let at = n.1 in
      let same : n.0 ≡ p.0 = omega (arith, at) in
      file_alike p.0 p.1 (ap (slice_get os) (sym same) ∙ n.2)
      ))

pub written_are_local : WrittenAreLocal
written_are_local = package_alike
