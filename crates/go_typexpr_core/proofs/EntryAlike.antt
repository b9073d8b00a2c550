-- Types and methods that are written under meanings which agree on the names that they write.
use Rattle.std.proofs.Common.{◌≡◌, ℕ, suc, ◌+◌, inl, inr, true, false, List, [], ◌∷◌, ◌++◌, Option, Some, None, is_some, refl, ap, subst, arith}
use Rattle.std.specs.Prelude.{slice_get}
use Rattle.std.specs.List.{flat_map, enumerate_from}
use Rattle.go_tree_nodes.specs.declared.files.Receiver.{Receiver}
use Rattle.go_tree_nodes.specs.declared.types.TypeName.{TypeName}
use Rattle.go_tree_nodes.specs.Trees.{TypeTree, NamedType, Pointer, ParenType, Struct, Interface, FieldTrees, NoFields, NamedFields, EmbeddedField, MethodTrees, NoMethods, Method, SignatureTree, Signed, ResultTree, NoResult, OneResult, Results, ParamTrees, NoParams, Param, FuncTree}
use Rattle.go_term_core.specs.decl_core.declared.places.DeclKind.TheVariants as kinds
use Rattle.go_term_core.specs.decl_core.TopDecls.{TopDeclTree, FormTree, ValueForm, TypeForm, FuncForm}
use Rattle.go_term_core.specs.Terms.{PointerTo, StructOf, InterfaceOf, AField, AMethod, SignOf, NoTerm, ATerm}
use Rattle.go_typexpr_core.specs.written.Written.{InFile, Meaning, member_place, term_starred, tag_of, named_fields, for_names, term_of, fields_of_tree, methods_of_tree, signature_of, results_of_tree, params_of_tree}
use Rattle.go_term_core.specs.decl_core.Outer.{last_ident}
use Rattle.go_typexpr_core.specs.entry.Entries.{Received, Meanings, type_key, method_place, methods_received, func_methods, decl_methods, entry_of, is_listed, listed_entry, file_at, file_methods, file_entries, package_methods}
use Rattle.go_typexpr_core.specs.entry.Laws.{EntriesAreLocal}
use Rattle.go_typexpr_core.specs.entry.Marks.{alias_mark}
use Rattle.go_typexpr_core.specs.entry.Meanings.{file_meaning}
use Rattle.go_typexpr_core.specs.entry.Names.{received_names, form_names, names_written}
use Rattle.go_typexpr_core.specs.entry.Outlines.{FileOutline}
use Rattle.go_typexpr_core.proofs.EntryAmong.{Among, among_left, among_right, among_to}
use Rattle.go_tree_nodes.specs.TypeNames.{type_names_in, field_names_in, method_names_in, signature_names_in, result_names_in, param_names_in}

abbrev Agrees : Meaning → Meaning → List TypeName → Type 0
Agrees mean other ns = (x : TypeName) → Among ns x → mean x ≡ other x

agrees_left : (mean other : Meaning) (xs ys : List TypeName) → Agrees mean other (xs ++ ys) → Agrees mean other xs
agrees_left mean other xs ys h = λ x a. h x (among_left xs ys x a)

agrees_right : (mean other : Meaning) (xs ys : List TypeName) → Agrees mean other (xs ++ ys) → Agrees mean other ys
agrees_right mean other xs ys h = λ x a. h x (among_right xs ys x a)

mutual
  type_alike : (mean other : Meaning) (f : InFile) (t : TypeTree) → Agrees mean other (type_names_in t) → term_of mean f t ≡ term_of other f t
  type_alike mean other f (NamedType n) h = h n (inl refl)
  type_alike mean other f (Pointer s t) h = ap PointerTo (type_alike mean other f t h)
  type_alike mean other f (ParenType a t b) h = type_alike mean other f t h
  type_alike mean other f (Struct a b fs c) h = ap (StructOf f.path) (fields_alike mean other f fs h)
  type_alike mean other f (Interface a b ms c) h = ap (InterfaceOf f.path) (methods_alike mean other f ms h)

  fields_alike : (mean other : Meaning) (f : InFile) (fs : FieldTrees) → Agrees mean other (field_names_in fs) → fields_of_tree mean f fs ≡ fields_of_tree other f fs
  fields_alike mean other f NoFields h = refl
  fields_alike mean other f (NamedFields xs t tag semicolon fs) h =
      let first = type_alike mean other f t (agrees_left mean other (type_names_in t) (field_names_in fs) h) in
      let rest = fields_alike mean other f fs (agrees_right mean other (type_names_in t) (field_names_in fs) h) in
      λ i. named_fields f (first i) (tag_of tag) xs (rest i)
  fields_alike mean other f (EmbeddedField star n tag semicolon fs) h =
      let first = h n (inl refl) in
      let rest = fields_alike mean other f fs (λ x a. h x (inr a)) in
      λ i. AField (last_ident n).name (member_place f kinds.Field (last_ident n).span.start) true (term_starred star (first i)) (tag_of tag) (rest i)

  methods_alike : (mean other : Meaning) (f : InFile) (ms : MethodTrees) → Agrees mean other (method_names_in ms) → methods_of_tree mean f ms ≡ methods_of_tree other f ms
  methods_alike mean other f NoMethods h = refl
  methods_alike mean other f (Method x g semicolon ms) h =
      let first = signature_alike mean other f g (agrees_left mean other (signature_names_in g) (method_names_in ms) h) in
      let rest = methods_alike mean other f ms (agrees_right mean other (signature_names_in g) (method_names_in ms) h) in
      λ i. AMethod x.name (member_place f kinds.Method x.span.start) (first i) (rest i)

  signature_alike : (mean other : Meaning) (f : InFile) (g : SignatureTree) → Agrees mean other (signature_names_in g) → signature_of mean f g ≡ signature_of other f g
  signature_alike mean other f (Signed a ps b r) h =
      let first = params_alike mean other f ps (agrees_left mean other (param_names_in ps) (result_names_in r) h) in
      let rest = results_alike mean other f r (agrees_right mean other (param_names_in ps) (result_names_in r) h) in
      λ i. SignOf (first i) (rest i)

  results_alike : (mean other : Meaning) (f : InFile) (r : ResultTree) → Agrees mean other (result_names_in r) → results_of_tree mean f r ≡ results_of_tree other f r
  results_alike mean other f NoResult h = refl
  results_alike mean other f (OneResult t) h = ap (λ u. ATerm u NoTerm) (type_alike mean other f t h)
  results_alike mean other f (Results a ps b) h = params_alike mean other f ps h

  params_alike : (mean other : Meaning) (f : InFile) (ps : ParamTrees) → Agrees mean other (param_names_in ps) → params_of_tree mean f ps ≡ params_of_tree other f ps
  params_alike mean other f NoParams h = refl
  params_alike mean other f (Param xs t comma ps) h =
      let first = type_alike mean other f t (agrees_left mean other (type_names_in t) (param_names_in ps) h) in
      let rest = params_alike mean other f ps (agrees_right mean other (type_names_in t) (param_names_in ps) h) in
      λ i. for_names (first i) xs (rest i)

-- declarations

func_alike : (mean other : Meaning) (f : InFile) (d : TopDeclTree) (g : FuncTree) (r : Option Receiver) → Agrees mean other (received_names g r) → func_methods mean f d g r ≡ func_methods other f d g r
func_alike mean other f d g None h = refl
func_alike mean other f d g (Some r) h =
    let base = h r.base (inl refl) in
    let sign = signature_alike mean other f g.signature (λ x a. h x (inr a)) in
    ap (λ (s : Received). s ∷ []) (λ i. record { base = base i; member = record { name = d.ident.name; place = method_place f d.number; pointer = is_some r.star; sign = sign i } })

decl_alike : (mean other : Meaning) (f : InFile) (d : TopDeclTree) (form : FormTree) → Agrees mean other (form_names form) → decl_methods mean f d form ≡ decl_methods other f d form
decl_alike mean other f d (ValueForm k v i) h = refl
decl_alike mean other f d (TypeForm t) h = refl
decl_alike mean other f d (FuncForm g) h = func_alike mean other f d g g.receiver h

entry_alike : (mean other : Meaning) (f : InFile) (rs ss : List Received) (d : TopDeclTree) (form : FormTree) → Agrees mean other (form_names form) → rs ≡ ss → entry_of mean f rs d form ≡ entry_of other f ss d form
entry_alike mean other f rs ss d (ValueForm k v i) h same = refl
entry_alike mean other f rs ss d (TypeForm t) h same =
    let term = type_alike mean other f t.type_expr h in
    ap (listed_entry (is_listed false (alias_mark t))) (λ i. record { key = type_key f d.number; name = d.ident.name; term = term i; methods = methods_received (type_key f d.number) (same i) })
entry_alike mean other f rs ss d (FuncForm g) h same = refl

abbrev written : List TopDeclTree → List TypeName
written ds = flat_map (λ d. form_names d.form) ds

file_methods_alike : (mean other : Meaning) (f : InFile) (ds : List TopDeclTree) → Agrees mean other (written ds) → file_methods mean f ds ≡ file_methods other f ds
file_methods_alike mean other f [] h = refl
file_methods_alike mean other f (d ∷ ds) h =
    let first = decl_alike mean other f d d.form (agrees_left mean other (form_names d.form) (written ds) h) in
    let rest = file_methods_alike mean other f ds (agrees_right mean other (form_names d.form) (written ds) h) in
    λ i. first i ++ rest i

file_entries_alike : (mean other : Meaning) (f : InFile) (rs ss : List Received) (ds : List TopDeclTree) → Agrees mean other (written ds) → rs ≡ ss → file_entries mean f rs ds ≡ file_entries other f ss ds
file_entries_alike mean other f rs ss [] h same = refl
file_entries_alike mean other f rs ss (d ∷ ds) h same =
    let first = entry_alike mean other f rs ss d d.form (agrees_left mean other (form_names d.form) (written ds) h) same in
    let rest = file_entries_alike mean other f rs ss ds (agrees_right mean other (form_names d.form) (written ds) h) same in
    λ i. first i ++ rest i

-- files

abbrev AllAgree : Meanings → Meanings → ℕ → List FileOutline → Type 0
AllAgree means others n os = (k : ℕ) (o : FileOutline) → slice_get os k ≡ Some o → Agrees (means (n + k)) (others (n + k)) (names_written o)

agree_first : (means others : Meanings) (n : ℕ) (o : FileOutline) (os : List FileOutline) → AllAgree means others n (o ∷ os) → Agrees (means n) (others n) (names_written o)
agree_first means others n o os h =
    let at : n + 0 ≡ n = omega arith in
    subst (λ (m : ℕ). Agrees (means m) (others m) (names_written o)) at (h 0 o refl)

agree_rest : (means others : Meanings) (n : ℕ) (o : FileOutline) (os : List FileOutline) → AllAgree means others n (o ∷ os) → AllAgree means others (n + 1) os
agree_rest means others n o os h = λ k p there.
    (let at : n + suc k ≡ n + 1 + k = omega arith in
    subst (λ (m : ℕ). Agrees (means m) (others m) (names_written p)) at (h (suc k) p there))

package_methods_alike : (means others : Meanings) (path : List ℕ) (n : ℕ) (os : List FileOutline) → AllAgree means others n os
    → flat_map (λ p. file_methods (means p.0) (file_at path p.0 p.1) p.1.decls) (enumerate_from n os) ≡ flat_map (λ p. file_methods (others p.0) (file_at path p.0 p.1) p.1.decls) (enumerate_from n os)
package_methods_alike means others path n [] h = refl
package_methods_alike means others path n (o ∷ os) h =
    let first = file_methods_alike (means n) (others n) (file_at path n o) o.decls (agree_first means others n o os h) in
    let rest = package_methods_alike means others path (n + 1) os (agree_rest means others n o os h) in
    λ i. first i ++ rest i

entries_alike : (means others : Meanings) (path : List ℕ) (rs ss : List Received) (n : ℕ) (os : List FileOutline) → AllAgree means others n os → rs ≡ ss
    → flat_map (λ p. file_entries (means p.0) (file_at path p.0 p.1) rs p.1.decls) (enumerate_from n os) ≡ flat_map (λ p. file_entries (others p.0) (file_at path p.0 p.1) ss p.1.decls) (enumerate_from n os)
entries_alike means others path rs ss n [] h same = refl
entries_alike means others path rs ss n (o ∷ os) h same =
    let first = file_entries_alike (means n) (others n) (file_at path n o) rs ss o.decls (agree_first means others n o os h) same in
    let rest = entries_alike means others path rs ss (n + 1) os (agree_rest means others n o os h) same in
    λ i. first i ++ rest i

pub entries_are_local : EntriesAreLocal
entries_are_local shows other path b c os h =
    let means : Meanings = λ file. file_meaning shows path b file in
    let others : Meanings = λ file. file_meaning other path c file in
    let agree : AllAgree means others 0 os = λ k o there x a. (let at : k ≡ 0 + k = omega arith in subst (λ (m : ℕ). means m x ≡ others m x) at (h k o x there (among_to (names_written o) x a))) in
    entries_alike means others path (package_methods means path os) (package_methods others path os) 0 os agree (package_methods_alike means others path 0 os agree)
