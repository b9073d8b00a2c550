-- A variable whose type is written stands for a variable of that type, in each file of its package.
use Rattle.std.proofs.Common.{◌≡◌, ℕ, false, List, [], ◌∷◌, ◌++◌, length, map, Option, Some, None, slice_get, is_some, refl, sym, ap, ◌∙◌, subst, if◌then◌else◌, arith, Bool}
use Rattle.std.specs.Prelude.{All, Contains, option_map}
use Rattle.std.proofs.lemmas.List.Elements.{All-cons}
use Rattle.std.proofs.lemmas.Option.{get_or_from_slice_get, slice_get-map, slice_get_within}
use Rattle.go_path_core.specs.text_core.Text.{is_blank}
use Rattle.go_path_core.specs.text_core.declared.rule.Rule.TheVariants.{N8}
use Rattle.go_tree_nodes.specs.declared.decls.ValueKind.TheVariants as value_kinds
use Rattle.go_tree_nodes.specs.declared.files.Receiver.{Receiver}
use Rattle.go_tree_nodes.specs.Trees.{FileTree, TypeTree, ValueSpecTree}
use Rattle.go_block_core.specs.Blocks.{file_binding, file_has}
use Rattle.go_block_core.specs.Declarations.{decl_ref}
use Rattle.go_block_core.specs.Tables.{in_block}
use Rattle.go_names_core.specs.scope_core.Laws.{denotes}
use Rattle.go_names_core.specs.scope_core.Lookups.{by_parts, in_scope}
use Rattle.go_names_core.specs.scope_core.Models.{scopes_model}
use Rattle.go_names_core.specs.scope_core.Scopes.{Denoted, Package}
use Rattle.go_names_core.specs.Scope.{some_meaning}
use Rattle.go_universe_core.specs.Universe.{found}
use Rattle.go_term_core.specs.decl_core.Outer.{kind_of_func}
use Rattle.go_term_core.specs.decl_core.declared.keys.DeclRef.{DeclRef}
use Rattle.go_term_core.specs.decl_core.declared.places.DeclKind.{DeclKind}
use Rattle.go_term_core.specs.decl_core.declared.places.DeclKind.TheVariants as kinds
use Rattle.go_term_core.specs.decl_core.TopDecls.{FormTree, FuncForm, TopDeclTree, TypeForm, ValueForm, kind_of_form, top_decls}
use Rattle.go_term_core.specs.declared.term.MemberPlace.TheVariants as places
use Rattle.go_term_core.specs.Terms.{Term}
use Rattle.go_typexpr_core.specs.written.Written.{InFile, Meaning}
use Rattle.go_typexpr_core.specs.entry.Entries.{file_at}
use Rattle.go_typexpr_core.specs.entry.Meanings.{file_meaning}
use Rattle.go_typexpr_core.specs.entry.Outlines.{FileOutline, IsOutline, outline_of}
use Rattle.go_typexpr_core.proofs.EntryAmong.{among_from}
use Rattle.go_digraph_core.specs.needs.Needs.{IsEndless, NeedsLead, known_in, needed}
use Rattle.go_expr_core.specs.denote_core.declared.things.Stand.TheVariants as stands_as
use Rattle.go_expr_core.specs.denote_core.Answers.{found_answer, name_answer, refused}
use Rattle.go_summary_core.specs.declared_core.Faces.{TheFace, variable_face}
use Rattle.go_summary_core.specs.declared_core.Laws.{FileDecl, Stands, package_decls, written_there}
use Rattle.go_summary_core.specs.declared_core.Places.{positions_are_exact}
use Rattle.go_summary_core.specs.declared_core.Written.{WrittenOf, face_found, form_as_written, package_written, type_written, value_as_written, written_at, written_of}
use Rattle.go_summary_core.specs.handle_core.Declarations.{InFile as DeclaredIn}
use Rattle.go_summary_core.specs.Summaries.{SummaryModel}
use Rattle.go_summary_core.specs.Views.{types_told}
use Rattle.go_summary_core.specs.table_core.Entries.{Entry}
use Rattle.go_package_core.specs.body_core.FunctionStands.{outer_looks}
use Rattle.go_package_core.specs.env_core.declared.meaning.Meaning.TheVariants as meanings
use Rattle.go_package_core.specs.env_core.Found.{TheFound, face_at, found_face, found_of, own_face}
use Rattle.go_package_core.specs.env_core.Looks.{TheLooks}
use Rattle.go_package_core.specs.env_core.Scenes.{SceneModel}
use Rattle.go_package_core.specs.package_part.Inputs.{path_in}
use Rattle.go_package_core.specs.package_part.Parts.{IsPart, PartModel, package_seen, seen_by}
use Rattle.go_package_core.specs.prepare.Packages.{PackageIn, outlines_in, scene_in, shows_in, stand_in, trees_in}
use Rattle.go_package_core.specs.prepare.Values.{AreDeclared, file_decl_needs, needs_in, some_decl_face}
use Rattle.go_snap_core.specs.value_core.Package.{first_values, form_face, form_idents, idents_need, value_face, value_idents}
use Rattle.go_snap_core.proofs.WholeWorkspaceLists.{none_is_some}
use Rattle.go_type_doc_core.specs.Names.{TheAnswer}
use Rattle.go_type_doc_core.specs.Naming.{types_seen}
use Rattle.go_documentation_laws.specs.Types.{look_in_file}

-- lists

mapped_back : {A B : Type 0} (f : A → B) (xs : List A) (k : ℕ) (y : B) → slice_get (map f xs) k ≡ Some y → (x : A) × (slice_get xs k ≡ Some x) × (f x ≡ y)
mapped_back {A} {B} f xs k y h = by (slice_get xs k) refl (sym (slice_get-map f xs k) ∙ h)
  where
    by : (o : Option A) → slice_get xs k ≡ o → option_map f o ≡ Some y → (x : A) × (slice_get xs k ≡ Some x) × (f x ≡ y)
    by None e h = absurd (none_is_some h)
    by (Some x) e h = (x, e, (let is : Some (f x) ≡ Some y = h in cc))

outlines_all : (fs : List FileTree) → All IsOutline (map outline_of fs)
outlines_all [] = λ k d lt. absurd (omega (arith, lt))
outlines_all (f ∷ fs) = All-cons IsOutline (outline_of f) (map outline_of fs) (f, refl) (outlines_all fs)

-- what needs nothing does not lead back to itself
needs_nothing : (rows : List (List ℕ)) (k : ℕ) → needed rows k ≡ [] → (j : ℕ) → Contains (needed rows k) j → ⊥
needs_nothing rows k none j c = absurd (among_from [] j (subst (λ (l : List ℕ). Contains l j) none c))

not_endless : (rows : List (List ℕ)) (k : ℕ) → needed rows k ≡ [] → IsEndless rows k → ⊥
not_endless rows k none e = by e.path e.leads
  where
    by : (path : List ℕ) → NeedsLead rows k path e.node → ⊥
    by [] same = needs_nothing rows k none e.first (subst (λ (n : ℕ). Contains (needed rows n) e.first) (sym same) e.back.0)
    by (c ∷ path) leads = needs_nothing rows k none c leads.0

-- by the form of a declaration

of_value : (mean : Meaning) (f : InFile) (es : List Entry) (o : Option TypeTree) (v : ValueSpecTree) (i : ℕ) (face : TheFace) → value_as_written mean f es value_kinds.Var o ≡ Some face
    → (value_idents value_kinds.Var o v i ≡ []) × ((looks : TheLooks) → value_face looks (Some face) value_kinds.Var o v i ≡ face)
of_value mean f es None v i face h = absurd (none_is_some h)
of_value mean f es (Some t) v i face h = (refl, λ looks. refl)

no_function : (r : Option Receiver) → kind_of_func r ≡ kinds.Var → ⊥
no_function None h = (let no : kinds.Func ≡ kinds.Var = h in cc)
no_function (Some r) h = (let no : kinds.Method ≡ kinds.Var = h in cc)

of_form : (mean : Meaning) (f : InFile) (es : List Entry) (n : ℕ) (form : FormTree) (face : TheFace) → kind_of_form form ≡ kinds.Var → form_as_written mean f es n form ≡ Some face
    → (form_idents form ≡ []) × ((looks : TheLooks) → form_face looks (Some face) form ≡ face)
of_form mean f es n (ValueForm value_kinds.Var v i) face kind h = of_value mean f es v.type_expr v i face h
of_form mean f es n (ValueForm value_kinds.Const v i) face kind h = absurd (let no : kinds.Const ≡ kinds.Var = kind in cc)
of_form mean f es n (TypeForm t) face kind h = absurd (let no : kinds.«Type» ≡ kinds.Var = kind in cc)
of_form mean f es n (FuncForm g) face kind h = absurd (no_function g.receiver kind)

abbrev named_if : Bool → TheFound → TheAnswer
named_if blank f = if blank then refused N8 else found_answer stands_as.BeforeDot f

module _ (q : PartModel) (made : IsPart q.input q.content) where
  abbrev es : List Entry
  es = types_seen q

  abbrev seen : PackageIn
  seen = package_seen q.input q.content.blocks (seen_by q.input)

  abbrev scene : SceneModel
  scene = scene_in seen es

  es_are : types_seen q ≡ types_told q.input.reached ++ made.checked.types
  es_are = ap (λ (s : SummaryModel). types_told q.input.reached ++ s.types.entries) made.summary

  declared : AreDeclared seen es q.content.declared
  declared = subst (λ ks. AreDeclared seen es ks) (sym made.declared) (subst (λ ts. AreDeclared seen ts made.checked.declared) (sym es_are) made.is_checked.declared)

  module _ (file : ℕ) (tree : FileTree) (in_trees : slice_get (trees_in q.input.source) file ≡ Some tree) (decl : TopDeclTree) (there : Contains (top_decls tree) decl) (value : ValueSpecTree) (place : ℕ)
      (is_form : decl.form ≡ ValueForm value_kinds.Var value place) (written_type : TypeTree) (is_type : value.type_expr ≡ Some written_type)
    where
      abbrev outline : FileOutline
      outline = outline_of tree

      -- the type as it is written there
      abbrev pub type_there : Option Term
      type_there = type_written (file_meaning (shows_in seen) seen.path seen.blocks file) (file_at seen.path file (outline_of tree)) es written_type

      abbrev face : TheFace
      face = variable_face type_there

      abbrev w : WrittenOf
      w = written_of (file_meaning (shows_in seen) seen.path seen.blocks file) (file_at seen.path file (outline_of tree)) es decl

      w_face : w.face ≡ Some face
      w_face =
          ap (form_as_written (file_meaning (shows_in seen) seen.path seen.blocks file) (file_at seen.path file (outline_of tree)) es decl.number) is_form
          ∙ ap (value_as_written (file_meaning (shows_in seen) seen.path seen.blocks file) (file_at seen.path file (outline_of tree)) es value_kinds.Var) is_type

      outlined : slice_get (outlines_in seen) file ≡ Some outline
      outlined = slice_get-map outline_of (trees_in q.input.source) file ∙ ap (option_map outline_of) in_trees

      stands : Stands (package_written (shows_in seen) seen.path seen.blocks es (outlines_in seen)) (decl_ref file decl.number (kind_of_form decl.form)) w
      stands = positions_are_exact.declared (shows_in seen) seen.path seen.blocks es (outlines_in seen) file outline decl (outlines_all seen.trees) (outlined, there)

      abbrev k : ℕ
      k = stands.place

      back : (x : FileDecl) × (slice_get (package_decls (outlines_in seen)) k ≡ Some x) × (written_there (shows_in seen) seen.path seen.blocks es x ≡ w)
      back = mapped_back (written_there (shows_in seen) seen.path seen.blocks es) (package_decls (outlines_in seen)) k w (subst (λ (ws : List WrittenOf). slice_get ws k ≡ Some w) (positions_are_exact.listed (shows_in seen) seen.path seen.blocks es (outlines_in seen)) stands.there)

      abbrev x : FileDecl
      x = back.0

      var_kind : kind_of_form decl.form ≡ kinds.Var
      var_kind = ap kind_of_form is_form

      x_kind : kind_of_form x.decl.form ≡ kinds.Var
      x_kind = ap (λ (y : WrittenOf). y.decl.kind) back.2 ∙ var_kind

      x_face : form_as_written (file_meaning (shows_in seen) seen.path seen.blocks x.file) (file_at seen.path x.file x.outline) es x.decl.number x.decl.form ≡ Some face
      x_face = ap (λ (y : WrittenOf). y.face) back.2 ∙ w_face

      x_is : (form_idents x.decl.form ≡ []) × ((looks : TheLooks) → form_face looks (Some face) x.decl.form ≡ face)
      x_is = of_form (file_meaning (shows_in seen) seen.path seen.blocks x.file) (file_at seen.path x.file x.outline) es x.decl.number x.decl.form face x_kind x_face

      -- it needs nothing
      abbrev rows : List (List ℕ)
      rows = needs_in seen es

      row_at : slice_get rows k ≡ Some (file_decl_needs scene x)
      row_at = slice_get-map (file_decl_needs scene) (package_decls (outlines_in seen)) k ∙ ap (option_map (file_decl_needs scene)) back.1

      no_needs : needed rows k ≡ []
      no_needs = get_or_from_slice_get rows k (file_decl_needs scene x) [] row_at ∙ ap (idents_need scene x.file) x_is.0

      -- so its value is known, and is what is written
      written : written_at scene.written k ≡ Some face
      written = ap face_found stands.there ∙ w_face

      abbrev looks : TheLooks
      looks = outer_looks (stand_in seen es (first_values (length scene.written) (known_in q.content.declared)) x.file x.outline)

      value_is : (v : TheFace) → known_in q.content.declared k ≡ Some v → v ≡ face
      value_is v e = declared.values k v e ∙ (ap (some_decl_face seen es (known_in q.content.declared) k) back.1 ∙ (ap (λ o. form_face looks o x.decl.form) written ∙ x_is.1 looks))

      known_by : (o : Option TheFace) → known_in q.content.declared k ≡ o → known_in q.content.declared k ≡ Some face
      known_by None e = absurd (not_endless rows k no_needs (declared.endless k (slice_get_within rows k (file_decl_needs scene x) row_at) e))
      known_by (Some v) e = e ∙ ap (λ (g : TheFace). Some g) (value_is v e)

      abbrev d : DeclRef
      d = decl_ref file decl.number kinds.Var

      own_is : own_face scene q.content.declared d ≡ Some face
      own_is =
          ap (λ (e : DeclKind). own_face scene q.content.declared (decl_ref file decl.number e)) (sym var_kind)
          ∙ (ap (face_at q.content.declared) stands.found ∙ known_by (known_in q.content.declared k) refl)

      -- and its name stands for it, where the package block has it
      module _ (variable : List ℕ) (plain : is_blank variable ≡ false) (bound : in_block q.content.blocks.names variable ≡ Some d) (other : ℕ) where
        unbound : file_binding q.content.blocks other variable ≡ None
        unbound = ap (λ (o : Option DeclRef). if is_some o then None else file_has q.content.blocks other variable) bound

        denoted : denotes (scopes_model q.content.blocks other []) variable ≡ Some (Package d)
        denoted =
            in_scope (scopes_model q.content.blocks other []) variable
            ∙ (ap (λ f. by_parts None f (in_block q.content.blocks.names variable) (found variable)) unbound ∙ ap (λ (o : Option DeclRef). by_parts None None o (found variable)) bound)

        pub name_is : name_answer (look_in_file q other tree) stands_as.BeforeDot variable ≡ found_answer stands_as.BeforeDot (found_face (DeclaredIn (path_in q.input) (places.Declared d)) (Some face))
        name_is =
            ap (λ (b : Bool). named_if b (found_of scene other q.content.declared variable (some_meaning meanings.Outside [] (denotes (scopes_model q.content.blocks other []) variable)))) plain
            ∙ (ap (λ (o : Option Denoted). named_if false (found_of scene other q.content.declared variable (some_meaning meanings.Outside [] o))) denoted
            ∙ ap (λ (o : Option TheFace). named_if false (found_face (DeclaredIn (path_in q.input) (places.Declared d)) o)) own_is)
