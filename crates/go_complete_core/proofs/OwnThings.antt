-- What the declarations of a package block are: each is of its kind, whatever is known of it.
use Rattle.std.proofs.Common.{◌≡◌, ◌⊎◌, inl, inr, ℕ, zero, suc, ◌+◌, ◌<◌, Bool, true, false, List, [], ◌∷◌, ◌++◌, length, map, Option, Some, None, refl, sym, ap, subst, ◌∙◌, arith}
use Rattle.std.specs.Prelude.{All, Contains, slice_get, slice_index_or}
use Rattle.std.specs.List.{AllByRecursion, flat_map}
use Rattle.std.specs.Option.{option_map}
use Rattle.std.proofs.lemmas.List.Elements.{All-from_recursion, Contains-append_left, Contains-append_right, Contains-append_cases}
use Rattle.std.proofs.lemmas.Option.{slice_get-map, slice_get_within, get_or_from_slice_get}
use Rattle.go_tree_nodes.specs.text_core.declared.span.Span.{Span}
use Rattle.go_tree_nodes.specs.declared.decls.ValueKind.{ValueKind}
use Rattle.go_tree_nodes.specs.declared.decls.ValueKind.TheVariants as value_kinds
use Rattle.go_tree_nodes.specs.declared.files.Receiver.{Receiver}
use Rattle.go_tree_nodes.specs.Trees.{TypeTree, ValueSpecTree, FileTree}
use Rattle.go_term_core.specs.decl_core.declared.keys.DeclRef.{DeclRef}
use Rattle.go_term_core.specs.decl_core.declared.places.DeclKind.{DeclKind}
use Rattle.go_term_core.specs.decl_core.declared.places.DeclKind.TheVariants as kinds
use Rattle.go_term_core.specs.decl_core.Outer.{kind_of_value, kind_of_func}
use Rattle.go_term_core.specs.decl_core.TopDecls.{TopDeclTree, FormTree, ValueForm, TypeForm, FuncForm, kind_of_form, top_decls}
use Rattle.go_graph_core.specs.Packages.{Trees, tree_shown}
use Rattle.go_names_core.specs.block_core.Declarations.{PackageDeclaration, decl_ref, declaration, has_receiver, is_method_form, unless_method, top_declared, file_declared, files_declared, package_declared}
use Rattle.go_names_core.specs.block_core.Holding.{package_block}
use Rattle.go_names_core.specs.block_core.Tables.{in_block}
use Rattle.go_names_core.specs.block_core.HoldingLaws.{package_holds}
use Rattle.go_type_core.specs.table_core.Entries.{Entry}
use Rattle.go_typexpr_core.specs.written.Written.{InFile, Meaning}
use Rattle.go_typexpr_core.specs.entry.Entries.{file_at}
use Rattle.go_typexpr_core.specs.entry.Meanings.{file_meaning}
use Rattle.go_typexpr_core.specs.entry.Outlines.{FileOutline, IsOutline, outline_of}
use Rattle.go_digraph_core.specs.needs.Needs.{needed, NeedsLead, IsEndless, known_in, AreValues}
use Rattle.go_candidate_core.specs.declared_core.declared.face.Face.TheVariants as faces
use Rattle.go_candidate_core.specs.declared_core.Faces.{TheFace, variable_face}
use Rattle.go_candidate_core.specs.declared_core.Laws.{FileDecl, Stands, package_decls, written_there}
use Rattle.go_candidate_core.specs.declared_core.Written.{WrittenOf, declared_face, form_as_written, value_as_written, written_of, written_at, face_found, position_of, package_written}
use Rattle.go_candidate_core.specs.declared_core.Places.{positions_are_exact}
use Rattle.go_package_core.specs.env_core.Scenes.{SceneModel}
use Rattle.go_package_core.specs.env_core.Looks.{TheLooks}
use Rattle.go_package_core.specs.env_core.Found.{face_at, own_face}
use Rattle.go_snap_core.specs.value_core.Package.{form_idents, idents_need, form_face, value_face, written_face, first_values}
use Rattle.go_package_core.specs.body_core.FunctionStands.{outer_looks}
use Rattle.go_package_core.specs.prepare.Packages.{PackageIn, outlines_in, shows_in, scene_in, stand_in}
use Rattle.go_package_core.specs.prepare.Values.{AreDeclared, decls_in, needs_in, file_decl_needs, declared_in, some_decl_face, face_there}
use Rattle.go_package_core.proofs.PrepareLists.{mapped_at}
use Rattle.go_candidate_core.specs.declared.context.things.Thing.{Thing}
use Rattle.go_candidate_core.specs.declared.context.things.Thing.TheVariants as things
use Rattle.go_candidate_core.specs.context.Alone.{thing_of_decl}
use Rattle.go_candidate_core.specs.fitting.Fitting.{thing_of_face}
use Rattle.go_complete_core.proofs.PlacePlacing.{first_has, none_has, is_first_or_more, more_has, one_has}

-- what a declaration is by its kind, a method a function

abbrev kind_thing : DeclKind → Option Thing
kind_thing kinds.Const = Some things.«Value»
kind_thing kinds.Var = Some things.«Value»
kind_thing kinds.«Type» = Some things.«Type»
kind_thing kinds.Func = Some things.Func
kind_thing kinds.Method = Some things.Func
kind_thing kinds.Field = None
kind_thing kinds.Param = None

no_method : (form : FormTree) → is_method_form form ≡ false → kind_thing (kind_of_form form) ≡ thing_of_decl (kind_of_form form)
no_method (ValueForm value_kinds.Const v i) h = refl
no_method (ValueForm value_kinds.Var v i) h = refl
no_method (TypeForm t) h = refl
no_method (FuncForm f) h = by f.receiver h
  where
    by : (r : Option Receiver) → has_receiver r ≡ false → kind_thing (kind_of_func r) ≡ thing_of_decl (kind_of_func r)
    by None k = refl
    by (Some r) k = absurd (cc)

-- what its form makes it
form_thing : (looks : TheLooks) (mean : Meaning) (f : InFile) (es : List Entry) (n : ℕ) (form : FormTree) → Some (thing_of_face (Some (form_face looks (form_as_written mean f es n form) form))) ≡ kind_thing (kind_of_form form)
form_thing looks mean f es n (ValueForm value_kinds.Const v i) = refl
form_thing looks mean f es n (ValueForm value_kinds.Var v i) = by v.type_expr
  where
    by : (t : Option TypeTree) → Some (thing_of_face (Some (value_face looks (value_as_written mean f es value_kinds.Var t) value_kinds.Var t v i))) ≡ Some things.«Value»
    by None = refl
    by (Some t) = refl
form_thing looks mean f es n (TypeForm t) = by t.alias
  where
    by : (mark : Option Span) → Some (thing_of_face (Some (declared_face mark mean f es n t.type_expr))) ≡ Some things.«Type»
    by None = refl
    by (Some s) = refl
form_thing looks mean f es n (FuncForm g) = by g.receiver
  where
    by : (r : Option Receiver) → Some things.Func ≡ kind_thing (kind_of_func r)
    by None = refl
    by (Some r) = refl

-- one that needs others is a constant or a variable
needing_thing : (s : SceneModel) (file : ℕ) (form : FormTree) → ((n : ℕ) × Contains (idents_need s file (form_idents form)) n) → Some things.«Value» ≡ kind_thing (kind_of_form form)
needing_thing s file (ValueForm value_kinds.Const v i) h = refl
needing_thing s file (ValueForm value_kinds.Var v i) h = refl
needing_thing s file (TypeForm t) h = absurd (none_has h.0 h.1)
needing_thing s file (FuncForm f) h = absurd (none_has h.0 h.1)

endless_needs : (rows : List (List ℕ)) (a : ℕ) → IsEndless rows a → (n : ℕ) × Contains (needed rows a) n
endless_needs rows a e = by e.path e.leads
  where
    by : (path : List ℕ) → NeedsLead rows a path e.node → (n : ℕ) × Contains (needed rows a) n
    by [] leads = (e.first, subst (λ (m : ℕ). Contains (needed rows m) e.first) (sym leads) e.back.0)
    by (c ∷ path) leads = (c, leads.0)

-- the declarations of the package block stand in files

record IsDeclaredIn (first : ℕ) (ts : Trees) (x : PackageDeclaration) : Type 0 where
  number : ℕ
  tree : FileTree
  decl : TopDeclTree
  there : slice_get (map tree_shown ts) number ≡ Some tree
  among : Contains (top_decls tree) decl
  is : declaration (first + number) decl ≡ x
  no_receiver : is_method_form decl.form ≡ false

module _ (file : ℕ) (x : PackageDeclaration) where
  record IsAmong (ds : List TopDeclTree) : Type 0 where
    decl : TopDeclTree
    among : Contains ds decl
    is : declaration file decl ≡ x
    no_receiver : is_method_form decl.form ≡ false

  top_there : (b : Bool) (d : TopDeclTree) → Contains (unless_method b (declaration file d)) x → (declaration file d ≡ x) × (b ≡ false)
  top_there true d h = absurd (none_has x h)
  top_there false d h = (one_has (declaration file d) x h, refl)

  in_file : (ds : List TopDeclTree) → Contains (flat_map (top_declared file) ds) x → IsAmong ds
  in_file [] h = absurd (none_has x h)
  in_file (d ∷ ds) h = elim (Contains-append_cases (top_declared file d) (flat_map (top_declared file) ds) x h) [
    | inl here ↦ (let t = top_there (is_method_form d.form) d here in record { decl = d; among = first_has d d ds refl; is = t.0; no_receiver = t.1 })
    | inr later ↦ (let r = in_file ds later in record { decl = r.decl; among = more_has d r.decl ds r.among; is = r.is; no_receiver = r.no_receiver })
  ]

in_files : (first : ℕ) (ts : Trees) (x : PackageDeclaration) → Contains (files_declared first ts) x → IsDeclaredIn first ts x
in_files first [] x h = absurd (none_has x h)
in_files first (t ∷ ts) x h = elim (Contains-append_cases (file_declared first t.1) (files_declared (first + 1) ts) x h) [
  | inl here ↦ (let r = in_file first x (top_decls t.1) here in record {
    number = 0;
    tree = t.1;
    decl = r.decl;
    there = refl;
    among = r.among;
    is = ap (λ n. declaration n r.decl) (let e : first + 0 ≡ first = omega arith in e) ∙ r.is;
    no_receiver = r.no_receiver;
  })
  | inr later ↦ (let r = in_files (first + 1) ts x later in record {
    number = suc r.number;
    tree = r.tree;
    decl = r.decl;
    there = r.there;
    among = r.among;
    is = ap (λ n. declaration n r.decl) (let e : first + suc r.number ≡ first + 1 + r.number = omega arith in e) ∙ r.is;
    no_receiver = r.no_receiver;
  })
]

all_outlines : (fs : List FileTree) → All IsOutline (map outline_of fs)
all_outlines fs = All-from_recursion IsOutline (map outline_of fs) (by fs)
  where
    by : (fs : List FileTree) → AllByRecursion IsOutline (map outline_of fs)
    by [] = tt
    by (f ∷ fs) = ((f, refl), by fs)

-- of a package that is checked

module _ (p : PackageIn) (types : List Entry) (known : List (Option TheFace)) (declared : AreDeclared p types known) where
  abbrev at_place : FileDecl → WrittenOf
  at_place d = written_there (shows_in p) p.path p.blocks types d

  -- what stands at a place
  place_thing : (place : ℕ) (d : FileDecl) → slice_get (decls_in p) place ≡ Some d → slice_get (scene_in p types).written place ≡ Some (at_place d)
      → Some (thing_of_face (known_in known place)) ≡ kind_thing (kind_of_form d.decl.form)
  place_thing place d there stands = by (known_in known place) refl
    where
      by : (v : Option TheFace) → known_in known place ≡ v → Some (thing_of_face v) ≡ kind_thing (kind_of_form d.decl.form)
      by (Some v) is =
          let written : written_at (scene_in p types).written place ≡ (at_place d).face = ap face_found stands in
          let looks : TheLooks = outer_looks (stand_in p types (first_values (length (scene_in p types).written) (known_in known)) d.file d.outline) in
          let made : v ≡ form_face looks (at_place d).face d.decl.form =
          declared.values place v is ∙ (ap (some_decl_face p types (known_in known) place) there ∙ ap (λ w. form_face looks w d.decl.form) written) in
          ap (λ f. Some (thing_of_face (Some f))) made ∙ form_thing looks (file_meaning (shows_in p) p.path p.blocks d.file) (file_at p.path d.file d.outline) types d.decl.number d.decl.form
      by None is =
          let row : slice_get (needs_in p types) place ≡ Some (file_decl_needs (scene_in p types) d) = slice_get-map (file_decl_needs (scene_in p types)) (decls_in p) place ∙ ap (option_map (file_decl_needs (scene_in p types))) there in
          let lead = endless_needs (needs_in p types) place (declared.endless place (slice_get_within (needs_in p types) place (file_decl_needs (scene_in p types) d) row) is) in
          needing_thing (scene_in p types) d.file d.decl.form (lead.0, subst (λ (r : List ℕ). Contains r lead.0) (get_or_from_slice_get (needs_in p types) place (file_decl_needs (scene_in p types) d) [] row) lead.1)

  module _ (ts : Trees) (trees : p.trees ≡ map tree_shown ts) (names : p.blocks.names ≡ package_block ts) where
    pub own_thing : (name : List ℕ) (d : DeclRef) → in_block p.blocks.names name ≡ Some d → Some (thing_of_face (own_face (scene_in p types) known d)) ≡ thing_of_decl d.kind
    own_thing name d held =
        let first = (package_holds ts name d).0 (ap (λ l. in_block l name) (sym names) ∙ held) in
        let listed : Contains (package_declared ts) first.first = subst (λ (l : List PackageDeclaration). Contains l first.first) (sym first.split) (Contains-append_right first.before (first.first ∷ first.after) first.first (first_has first.first first.first first.after refl)) in
        let r = in_files 0 ts first.first listed in
        let os : List FileOutline = outlines_in p in
        let file : slice_get os r.number ≡ Some (outline_of r.tree) = slice_get-map outline_of p.trees r.number ∙ ap (option_map outline_of) (ap (λ l. slice_get l r.number) trees ∙ r.there) in
        let stands = positions_are_exact.declared (shows_in p) p.path p.blocks types os r.number (outline_of r.tree) r.decl (all_outlines p.trees) (file, r.among) in
        let decl : d ≡ decl_ref r.number r.decl.number (kind_of_form r.decl.form) = sym first.is ∙ (sym (ap (λ (x : PackageDeclaration). x.decl) r.is) ∙ ap (λ n. decl_ref n r.decl.number (kind_of_form r.decl.form)) (let e : 0 + r.number ≡ r.number = omega arith in e)) in
        let at = mapped_at at_place (decls_in p) stands.place _ (ap (λ l. slice_get l stands.place) (sym (positions_are_exact.listed (shows_in p) p.path p.blocks types os)) ∙ stands.there) in
        let kind : kind_of_form at.0.decl.form ≡ kind_of_form r.decl.form = ap (λ (w : WrittenOf). w.decl.kind) at.2 in
        ap (λ (e : DeclRef). Some (thing_of_face (own_face (scene_in p types) known e))) decl
        ∙ (ap (λ o. Some (thing_of_face (face_at known o))) stands.found
        ∙ (place_thing stands.place at.0 at.1 (stands.there ∙ ap Some (sym at.2))
        ∙ (ap kind_thing kind ∙ (no_method r.decl.form r.no_receiver ∙ sym (ap (λ (e : DeclRef). thing_of_decl e.kind) decl)))))
