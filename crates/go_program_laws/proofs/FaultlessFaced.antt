-- What is known of a type that a package declares is what is written of it.
use Rattle.std.proofs.Common.{◌≡◌, ℕ, true, All, List, [], ◌∷◌, length, map, Option, Some, None, slice_get, refl, sym, ap, subst, ◌∙◌, arith}
use Rattle.std.specs.Prelude.{Contains, option_map}
use Rattle.std.proofs.lemmas.List.Elements.{All-cons}
use Rattle.std.proofs.lemmas.Option.{get_or_from_slice_get, slice_get-map, slice_get_within}
use Rattle.go_tree_nodes.specs.declared.decls.ValueKind.TheVariants as value_kinds
use Rattle.go_tree_nodes.specs.declared.files.Receiver.{Receiver}
use Rattle.go_tree_nodes.specs.Trees.{FileTree, TypeSpecTree}
use Rattle.go_digraph_core.proofs.NeedsNeeded.{endless_never}
use Rattle.go_digraph_core.specs.needs.Needs.{known_in, needed}
use Rattle.go_term_core.specs.decl_core.declared.keys.DeclRef.{DeclRef}
use Rattle.go_term_core.specs.decl_core.declared.places.DeclKind.{DeclKind}
use Rattle.go_term_core.specs.decl_core.declared.places.DeclKind.TheVariants as kinds
use Rattle.go_term_core.specs.decl_core.Outer.{kind_of_func}
use Rattle.go_term_core.specs.decl_core.TopDecls.{FormTree, FuncForm, TypeForm, ValueForm, kind_of_form, top_decls}
use Rattle.go_graph_core.specs.Packages.{Trees, tree_shown}
use Rattle.go_names_core.specs.block_core.Bindings.{key_of}
use Rattle.go_names_core.specs.block_core.Declarations.{decl_ref}
use Rattle.go_names_core.specs.block_core.Holding.{package_block}
use Rattle.go_names_core.specs.block_core.Tables.{in_block}
use Rattle.go_body_core.specs.table_core.Entries.{Entry}
use Rattle.go_body_core.specs.typexpr_core.EntryAmong.{Among, among_to}
use Rattle.go_body_core.specs.typexpr_core.EntryBelonging.{Found}
use Rattle.go_body_core.specs.typexpr_core.EntryEntries.{file_at, type_key}
use Rattle.go_body_core.specs.typexpr_core.EntryMeanings.{file_meaning}
use Rattle.go_body_core.specs.typexpr_core.EntryOutlines.{FileOutline, IsOutline, outline_of}
use Rattle.go_emit_core.specs.declared_core.Faces.{TheFace}
use Rattle.go_emit_core.specs.declared_core.Laws.{FileDecl, Stands, package_decls, written_there}
use Rattle.go_emit_core.specs.declared_core.Places.{positions_are_exact}
use Rattle.go_emit_core.specs.declared_core.Written.{WrittenOf, declared_face, face_found, form_as_written, package_written, written_at, written_of}
use Rattle.go_body_core.specs.env_core.Found.{face_at, own_face}
use Rattle.go_body_core.specs.env_core.Looks.{TheLooks}
use Rattle.go_body_core.specs.env_core.Scenes.{SceneModel}
use Rattle.go_snap_core.specs.value_core.Package.{first_values, form_face, form_idents, idents_need, written_face}
use Rattle.go_body_core.specs.function.Stands.{outer_looks}
use Rattle.go_emit_core.specs.package_core.PreparePackages.{PackageIn, outlines_in, scene_in, shows_in, stand_in}
use Rattle.go_emit_core.specs.package_core.PrepareValues.{AreDeclared, file_decl_needs, needs_in, some_decl_face}
use Rattle.go_session_core.specs.type_doc_core.mirrors.Named.{is_type}
use Rattle.go_session_core.specs.type_doc_core.Blocked.{IsDeclOf, block_declares}

-- by the form of a declaration

pub type_kind : (k : DeclKind) → is_type k ≡ true → k ≡ kinds.«Type»
type_kind kinds.«Type» h = refl
type_kind _ h = absurd (cc h)

func_is_none : (r : Option Receiver) → is_type (kind_of_func r) ≡ true → ⊥
func_is_none None h = cc h
func_is_none (Some r) h = cc h

type_form : (form : FormTree) → is_type (kind_of_form form) ≡ true → (t : TypeSpecTree) × (form ≡ TypeForm t)
type_form (ValueForm value_kinds.Const v i) h = absurd (cc h)
type_form (ValueForm value_kinds.Var v i) h = absurd (cc h)
type_form (TypeForm t) h = (t, refl)
type_form (FuncForm g) h = absurd (func_is_none g.receiver h)

-- lists

mapped_back : {A B : Type 0} (f : A → B) (xs : List A) (k : ℕ) (y : B) → slice_get (map f xs) k ≡ Some y → (x : A) × (slice_get xs k ≡ Some x) × (f x ≡ y)
mapped_back {A} {B} f xs k y h = by (slice_get xs k) refl (sym (slice_get-map f xs k) ∙ h)
  where
    by : (o : Option A) → slice_get xs k ≡ o → option_map f o ≡ Some y → (x : A) × (slice_get xs k ≡ Some x) × (f x ≡ y)
    by None e h = (let none : ◌≡◌ {A = Option B} None (Some y) = h in cc)
    by (Some x) e h = (x, e, (let is : Some (f x) ≡ Some y = h in cc))

pub outlines_all : (fs : List FileTree) → All IsOutline (map outline_of fs)
outlines_all [] = λ k d lt. absurd (omega (arith, lt))
outlines_all (f ∷ fs) = All-cons IsOutline (outline_of f) (map outline_of fs) (f, refl) (outlines_all fs)

nothing_needed : (rows : List (List ℕ)) (k : ℕ) → needed rows k ≡ [] → (b : ℕ) → Contains (needed rows k) b → ⊥
nothing_needed rows k none b has = (let h : Contains [] b = subst (λ (ns : List ℕ). Contains ns b) none has in let lt = h.1 in absurd (omega (arith, lt)))

-- a declaration of a package is a type, where it stands, and is known as what is written of it
pub record IsTypeOf (seen : PackageIn) (es : List Entry) (known : List (Option TheFace)) (d : DeclRef) : Type 0 where
  pub found : Found (outlines_in seen)
  pub tree : FileTree
  pub in_package : slice_get seen.trees found.file ≡ Some tree
  pub among : Among (top_decls tree) found.decl
  pub spec : TypeSpecTree
  pub form : found.decl.form ≡ TypeForm spec
  pub key : type_key (file_at seen.path found.file found.outline) found.decl.number ≡ key_of seen.path d
  pub face : own_face (scene_in seen es) known d
      ≡ Some (declared_face spec.alias (file_meaning (shows_in seen) seen.path seen.blocks found.file) (file_at seen.path found.file found.outline) es found.decl.number spec.type_expr)

-- a package of these trees, whose declarations are this over these types
module _ (seen : PackageIn) (ts : Trees) (trees : seen.trees ≡ map tree_shown ts) (names : seen.blocks.names ≡ package_block ts) (es : List Entry) (known : List (Option TheFace)) (declared : AreDeclared seen es known)
    (name : List ℕ) (d : DeclRef) (at : in_block seen.blocks.names name ≡ Some d) (is : is_type d.kind ≡ true) where
  abbrev scene : SceneModel
  scene = scene_in seen es

  abbrev os : List FileOutline
  os = outlines_in seen

  own : IsDeclOf ts d
  own = block_declares ts name d (subst (λ (ns : List (List ℕ × DeclRef)). in_block ns name ≡ Some d) names at)

  abbrev outline : FileOutline
  outline = outline_of own.tree.1

  outlined : slice_get os own.file ≡ Some outline
  outlined =
      ap (λ (fs : List FileTree). slice_get (map outline_of fs) own.file) trees
      ∙ (slice_get-map outline_of (map tree_shown ts) own.file
      ∙ (ap (option_map outline_of) (slice_get-map tree_shown ts own.file) ∙ ap (λ o. option_map outline_of (option_map tree_shown o)) own.there))

  in_trees : slice_get seen.trees own.file ≡ Some own.tree.1
  in_trees = ap (λ (fs : List FileTree). slice_get fs own.file) trees ∙ (slice_get-map tree_shown ts own.file ∙ ap (option_map tree_shown) own.there)

  abbrev w : WrittenOf
  w = written_of (file_meaning (shows_in seen) seen.path seen.blocks own.file) (file_at seen.path own.file outline) es own.decl

  stands : Stands (package_written (shows_in seen) seen.path seen.blocks es os) (decl_ref own.file own.decl.number (kind_of_form own.decl.form)) w
  stands = positions_are_exact.declared (shows_in seen) seen.path seen.blocks es os own.file outline own.decl (outlines_all seen.trees) (outlined, among_to (top_decls own.tree.1) own.decl own.among)

  abbrev k : ℕ
  k = stands.place

  back : (x : FileDecl) × (slice_get (package_decls os) k ≡ Some x) × (written_there (shows_in seen) seen.path seen.blocks es x ≡ w)
  back =
      mapped_back (written_there (shows_in seen) seen.path seen.blocks es) (package_decls os) k w
      (subst (λ (ws : List WrittenOf). slice_get ws k ≡ Some w) (positions_are_exact.listed (shows_in seen) seen.path seen.blocks es os) stands.there)

  abbrev fd : FileDecl
  fd = back.0

  -- its position
  positioned : own_face scene known d ≡ known_in known k
  positioned = ap (λ (x : DeclRef). own_face scene known x) own.is ∙ ap (face_at known) stands.found

  own_spec : (t : TypeSpecTree) × (own.decl.form ≡ TypeForm t)
  own_spec = type_form own.decl.form (ap is_type (sym (ap (λ (x : DeclRef). x.kind) own.is)) ∙ is)

  there_spec : (t : TypeSpecTree) × (fd.decl.form ≡ TypeForm t)
  there_spec = type_form fd.decl.form (ap is_type (ap (λ (x : WrittenOf). x.decl.kind) back.2 ∙ sym (ap (λ (x : DeclRef). x.kind) own.is)) ∙ is)

  abbrev the_face : TheFace
  the_face = declared_face own_spec.0.alias (file_meaning (shows_in seen) seen.path seen.blocks own.file) (file_at seen.path own.file outline) es own.decl.number own_spec.0.type_expr

  -- what is written of it
  written : written_at scene.written k ≡ Some the_face
  written = ap face_found stands.there ∙ ap (form_as_written (file_meaning (shows_in seen) seen.path seen.blocks own.file) (file_at seen.path own.file outline) es own.decl.number) own_spec.1

  abbrev looks : TheLooks
  looks = outer_looks (stand_in seen es (first_values (length scene.written) (known_in known)) fd.file fd.outline)

  face_is : (v : TheFace) → known_in known k ≡ Some v → v ≡ the_face
  face_is v e =
      declared.values k v e
      ∙ (ap (some_decl_face seen es (known_in known) k) back.1 ∙ (ap (form_face looks (written_at scene.written k)) there_spec.1 ∙ ap written_face written))

  abbrev rows : List (List ℕ)
  rows = needs_in seen es

  row_at : slice_get rows k ≡ Some (file_decl_needs scene fd)
  row_at = slice_get-map (file_decl_needs scene) (package_decls os) k ∙ ap (option_map (file_decl_needs scene)) back.1

  none : needed rows k ≡ []
  none = get_or_from_slice_get rows k (file_decl_needs scene fd) [] row_at ∙ ap (λ (form : FormTree). idents_need scene fd.file (form_idents form)) there_spec.1

  by_value : (o : Option TheFace) → known_in known k ≡ o → o ≡ Some the_face
  by_value (Some v) e = ap (λ (x : TheFace). Some x) (face_is v e)
  by_value None e = absurd (endless_never rows 1 k (declared.endless k (slice_get_within rows k (file_decl_needs scene fd) row_at) e) (nothing_needed rows k none))

  pub type_of_name : IsTypeOf seen es known d
  type_of_name = record {
    found = record { file = own.file; outline = outline; decl = own.decl; there = outlined; among = own.among };
    tree = own.tree.1;
    in_package = in_trees;
    among = own.among;
    spec = own_spec.0;
    form = own_spec.1;
    key = ap (key_of seen.path) (ap (decl_ref own.file own.decl.number) (sym (ap kind_of_form own_spec.1)) ∙ sym own.is);
    face = positioned ∙ by_value (known_in known k) refl;
  }
