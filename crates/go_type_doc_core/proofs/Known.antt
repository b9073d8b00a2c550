-- What is known of the declarations of a package, by their kinds.
use Rattle.std.proofs.Common.{◌≡◌, ℕ, true, false, List, [], ◌∷◌, length, map, Option, Some, None, slice_get, refl, sym, ap, ◌∙◌, subst, arith}
use Rattle.std.specs.Prelude.{All, option_map}
use Rattle.std.proofs.lemmas.Bool.{true≢false}
use Rattle.std.proofs.lemmas.List.Elements.{All-cons}
use Rattle.std.proofs.lemmas.Option.{slice_get-map}
use Rattle.go_tree_nodes.specs.declared.decls.ValueKind.{ValueKind}
use Rattle.go_tree_nodes.specs.declared.decls.ValueKind.TheVariants as value_kinds
use Rattle.go_tree_nodes.specs.Trees.{FileTree, TypeTree, ValueSpecTree}
use Rattle.go_term_core.specs.decl_core.declared.keys.DeclRef.{DeclRef}
use Rattle.go_term_core.specs.decl_core.TopDecls.{FormTree, FuncForm, TypeForm, ValueForm, kind_of_form, top_decls}
use Rattle.go_graph_core.specs.Packages.{Trees, tree_shown}
use Rattle.go_names_core.specs.block_core.Declarations.{decl_ref}
use Rattle.go_names_core.specs.block_core.Holding.{package_block}
use Rattle.go_names_core.specs.block_core.Tables.{in_block}
use Rattle.go_summary_core.specs.table_core.Entries.{Entry}
use Rattle.go_typexpr_core.specs.written.Written.{InFile, Meaning}
use Rattle.go_typexpr_core.specs.entry.Entries.{file_at}
use Rattle.go_typexpr_core.specs.entry.Laws.{IsDeclaredInFile}
use Rattle.go_typexpr_core.specs.entry.Meanings.{file_meaning}
use Rattle.go_typexpr_core.specs.entry.Outlines.{FileOutline, IsOutline, outline_of}
use Rattle.go_typexpr_core.proofs.EntryAmong.{among_to}
use Rattle.go_digraph_core.specs.needs.Needs.{known_in}
use Rattle.go_summary_core.specs.declared_core.Faces.{TheFace}
use Rattle.go_summary_core.specs.declared_core.Laws.{FileDecl, Stands, package_decls, written_there}
use Rattle.go_summary_core.specs.declared_core.Written.{WrittenOf, face_found, form_as_written, package_written, value_as_written, written_at, written_of}
use Rattle.go_summary_core.specs.declared_core.Places.{positions_are_exact}
use Rattle.go_package_core.specs.env_core.Found.{face_at, own_face}
use Rattle.go_package_core.specs.env_core.Looks.{TheLooks}
use Rattle.go_package_core.specs.env_core.Scenes.{SceneModel}
use Rattle.go_snap_core.specs.value_core.Package.{first_values, form_face, value_face}
use Rattle.go_package_core.specs.body_core.FunctionStands.{outer_looks}
use Rattle.go_package_core.specs.prepare.Packages.{PackageIn, outlines_in, scene_in, shows_in, stand_in}
use Rattle.go_package_core.specs.prepare.Values.{AreDeclared, some_decl_face}
use Rattle.go_type_doc_core.specs.mirrors.Named.{IsNoType, IsNoTypeFace, is_type}
use Rattle.go_type_doc_core.proofs.Blocked.{IsDeclOf, block_declares}

-- by the form of a declaration

module _ (looks : TheLooks) (mean : Meaning) (f : InFile) (es : List Entry) (n : ℕ) where
  plain_value : (k : ValueKind) (t : Option TypeTree) (v : ValueSpecTree) (i : ℕ) → IsNoTypeFace (value_face looks (value_as_written mean f es k t) k t v i)
  plain_value value_kinds.Const t v i = tt
  plain_value value_kinds.Var None v i = tt
  plain_value value_kinds.Var (Some t) v i = tt

  plain_form : (form : FormTree) → is_type (kind_of_form form) ≡ false → IsNoTypeFace (form_face looks (form_as_written mean f es n form) form)
  plain_form (ValueForm k v i) h = plain_value k v.type_expr v i
  plain_form (TypeForm t) h = absurd (true≢false h)
  plain_form (FuncForm g) h = tt

-- lists

mapped_back : {A B : Type 0} (f : A → B) (xs : List A) (k : ℕ) (y : B) → slice_get (map f xs) k ≡ Some y → (x : A) × (slice_get xs k ≡ Some x) × (f x ≡ y)
mapped_back {A} {B} f xs k y h = by (slice_get xs k) refl (sym (slice_get-map f xs k) ∙ h)
  where
    by : (o : Option A) → slice_get xs k ≡ o → option_map f o ≡ Some y → (x : A) × (slice_get xs k ≡ Some x) × (f x ≡ y)
    by None e h = (let none : ◌≡◌ {A = Option B} None (Some y) = h in cc)
    by (Some x) e h = (x, e, (let is : Some (f x) ≡ Some y = h in cc))

outlines_all : (fs : List FileTree) → All IsOutline (map outline_of fs)
outlines_all [] = λ k d lt. absurd (omega (arith, lt))
outlines_all (f ∷ fs) = All-cons IsOutline (outline_of f) (map outline_of fs) (f, refl) (outlines_all fs)

-- a package of these trees, whose declarations are this over these types
module _ (seen : PackageIn) (ts : Trees) (trees : seen.trees ≡ map tree_shown ts) (names : seen.blocks.names ≡ package_block ts) (es : List Entry) (known : List (Option TheFace)) (declared : AreDeclared seen es known) where
  abbrev scene : SceneModel
  scene = scene_in seen es

  abbrev os : List FileOutline
  os = outlines_in seen

  -- a declaration of the package block
  module _ (name : List ℕ) (d : DeclRef) (at : in_block seen.blocks.names name ≡ Some d) where
    own : IsDeclOf ts d
    own = block_declares ts name d (subst (λ (ns : List (List ℕ × DeclRef)). in_block ns name ≡ Some d) names at)

    abbrev outline : FileOutline
    outline = outline_of own.tree.1

    outlined : slice_get os own.file ≡ Some outline
    outlined =
        ap (λ (fs : List FileTree). slice_get (map outline_of fs) own.file) trees
        ∙ (slice_get-map outline_of (map tree_shown ts) own.file
        ∙ (ap (option_map outline_of) (slice_get-map tree_shown ts own.file) ∙ ap (λ o. option_map outline_of (option_map tree_shown o)) own.there))

    in_file : IsDeclaredInFile os own.file outline own.decl
    in_file = (outlined, among_to (top_decls own.tree.1) own.decl own.among)

    abbrev w : WrittenOf
    w = written_of (file_meaning (shows_in seen) seen.path seen.blocks own.file) (file_at seen.path own.file outline) es own.decl

    stands : Stands (package_written (shows_in seen) seen.path seen.blocks es os) (decl_ref own.file own.decl.number (kind_of_form own.decl.form)) w
    stands = positions_are_exact.declared (shows_in seen) seen.path seen.blocks es os own.file outline own.decl (outlines_all seen.trees) in_file

    abbrev k : ℕ
    k = stands.place

    back : (x : FileDecl) × (slice_get (package_decls os) k ≡ Some x) × (written_there (shows_in seen) seen.path seen.blocks es x ≡ w)
    back = mapped_back (written_there (shows_in seen) seen.path seen.blocks es) (package_decls os) k w (subst (λ (ws : List WrittenOf). slice_get ws k ≡ Some w) (positions_are_exact.listed (shows_in seen) seen.path seen.blocks es os) stands.there)

    abbrev fd : FileDecl
    fd = back.0

    -- its position, and what is written of it
    positioned : own_face scene known d ≡ known_in known k
    positioned = ap (λ (x : DeclRef). own_face scene known x) own.is ∙ ap (face_at known) stands.found

    decl_is : decl_ref fd.file fd.decl.number (kind_of_form fd.decl.form) ≡ d
    decl_is = ap (λ (x : WrittenOf). x.decl) back.2 ∙ sym own.is

    kind_is : kind_of_form fd.decl.form ≡ d.kind
    kind_is = ap (λ (x : DeclRef). x.kind) decl_is

    abbrev mean : Meaning
    mean = file_meaning (shows_in seen) seen.path seen.blocks fd.file

    abbrev file : InFile
    file = file_at seen.path fd.file fd.outline

    written : written_at scene.written k ≡ form_as_written mean file es fd.decl.number fd.decl.form
    written = ap face_found stands.there ∙ ap (λ (x : WrittenOf). x.face) (sym back.2)

    abbrev looks : TheLooks
    looks = outer_looks (stand_in seen es (first_values (length scene.written) (known_in known)) fd.file fd.outline)

    -- what it is, where that is known
    face_is : (v : TheFace) → known_in known k ≡ Some v → v ≡ form_face looks (form_as_written mean file es fd.decl.number fd.decl.form) fd.decl.form
    face_is v e = declared.values k v e ∙ (ap (some_decl_face seen es (known_in known) k) back.1 ∙ ap (λ o. form_face looks o fd.decl.form) written)

    -- what is no type by its kind is none
    plain_value_of : is_type d.kind ≡ false → (o : Option TheFace) → known_in known k ≡ o → IsNoType o
    plain_value_of other None e = tt
    plain_value_of other (Some v) e = subst IsNoTypeFace (sym (face_is v e)) (plain_form looks mean file es fd.decl.number fd.decl.form (ap is_type kind_is ∙ other))

    pub face_plain : is_type d.kind ≡ false → IsNoType (own_face scene known d)
    face_plain other = subst IsNoType (sym positioned) (plain_value_of other (known_in known k) refl)
