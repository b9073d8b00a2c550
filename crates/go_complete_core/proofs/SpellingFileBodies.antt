-- A package in which one identifier of the body of a function is spelled anew.
use Rattle.std.proofs.Common.{◌≡◌, ℕ, zero, suc, inl, inr, List, [], ◌∷◌, ◌++◌, map, slice_get, refl, sym, ap, subst, ◌∙◌}
use Rattle.std.specs.Prelude.{Option, Some}
use Rattle.go_tree_nodes.specs.declared.names.Ident.{Ident}
use Rattle.go_tree_nodes.specs.Trees.{FuncTree, Lines, TopTree, FileTree}
use Rattle.go_term_core.specs.decl_core.declared.places.Place.{Place}
use Rattle.go_term_core.specs.decl_core.Outer.{places_of, place_of}
use Rattle.go_term_core.specs.decl_core.TopDecls.{TopDeclTree, FormTree, FuncForm, kind_of_form}
use Rattle.go_names_core.specs.block_core.Blocks.{BlocksModel}
use Rattle.go_type_core.specs.table_core.Entries.{Entry}
use Rattle.go_term_core.specs.Terms.{Term, Sign}
use Rattle.go_typexpr_core.specs.entry.Meanings.{Shows, file_meaning}
use Rattle.go_typexpr_core.specs.written.Written.{InFile}
use Rattle.go_typexpr_core.specs.entry.Outlines.{outline_of}
use Rattle.go_candidate_core.specs.handle_core.Declarations.{Declaration}
use Rattle.go_candidate_core.specs.declared_core.Faces.{TheFace}
use Rattle.go_candidate_core.specs.declared_core.Laws.{FileDecl, written_there}
use Rattle.go_candidate_core.specs.declared_core.Written.{WrittenOf, form_as_written, package_written}
use Rattle.go_candidate_core.specs.declared_core.Places.{positions_are_exact}
use Rattle.go_package_core.specs.env_core.Scenes.{SceneModel}
use Rattle.go_digraph_core.specs.needs.Needs.{AreValues, known_in}
use Rattle.go_digraph_core.proofs.NeedsNeeded.{one_table}
use Rattle.go_package_core.specs.body_core.FunctionStands.{FileStand, looks_where}
use Rattle.go_package_core.specs.body_core.FunctionFunctions.{checked_func}
use Rattle.go_package_core.specs.prepare.Packages.{PackageIn, outlines_in, shows_in, scene_in, stand_in}
use Rattle.go_package_core.specs.prepare.Values.{decls_in, AreDeclared}
use Rattle.go_complete_core.specs.spelling.Contexts.{ContextStays}
use Rattle.go_complete_core.specs.spelling.Package.{FileForm, all_needs, form_needs, face_of, face_at_position, AreFacesOf}
use Rattle.go_complete_core.specs.spelling.Trees.{RespellsLines, RespellsSteps, InFuncBody, with_body}
use Rattle.go_names_core.specs.local_core.Outline.{func_steps}
use Rattle.go_package_core.specs.body_core.FileFiles.{tops_uses}
use Rattle.go_complete_core.specs.spelling.Spots.{tops_spots}
use Rattle.go_complete_core.proofs.SpellingLooking.{looks_at_needs}
use Rattle.go_complete_core.specs.spelling.Files.{WritesBody, with_decls, with_trees}
use Rattle.go_complete_core.specs.spelling.Functions.{func_spots, names_before}
use Rattle.go_complete_core.specs.spelling.Packages.{PackageBodiesStay}
use Rattle.go_complete_core.proofs.SpellingChecked.{checked_stay}
use Rattle.go_complete_core.proofs.SpellingInFiles.{in_bodies}
use Rattle.go_complete_core.proofs.SpellingBodyListed.{IsOther, IsPlacedOther, AllOther, outers_same, files_other}
use Rattle.go_complete_core.proofs.SpellingInitials.{stand_for, rules_for, form_in, all_fixed, faces_of}
use Rattle.go_complete_core.proofs.SpellingNames.{names_other}
use Rattle.go_names_core.specs.block_core.Declarations.{decl_ref}

module _ (f : FuncTree) (body : Lines) where
  -- what is written of a declaration, what it needs and what it is

  module _ (shows : Shows) (path : List ℕ) (blocks : BlocksModel) (types : List Entry) where
    abbrev at_place : ℕ → List Place → ℕ → FormTree → WrittenOf
    at_place file places number tree =
        let o : InFile = record { path = path; file = file; places = places } in
        record { decl = decl_ref file number (kind_of_form tree); face = form_as_written (file_meaning shows path blocks file) o types number tree }

    one_written : (d e : FileDecl) → IsPlacedOther f body d e → IsOther f body d.decl e.decl → written_there shows path blocks types d ≡ written_there shows path blocks types e
    one_written d e h (inl same) =
        ap (λ k. at_place k d.outline.places d.decl.number d.decl.form) h.files
        ∙ (ap (λ ps. at_place e.file ps d.decl.number d.decl.form) h.places
        ∙ ap (λ (x : TopDeclTree). at_place e.file e.outline.places x.number x.form) same)
    one_written d e h (inr other) =
        ap (λ k. at_place k d.outline.places d.decl.number d.decl.form) h.files
        ∙ (ap (λ ps. at_place e.file ps d.decl.number d.decl.form) h.places
        ∙ (ap (λ m. at_place e.file e.outline.places m d.decl.form) other.0
        ∙ (ap (at_place e.file e.outline.places e.decl.number) other.1
        ∙ ap (at_place e.file e.outline.places e.decl.number) (sym other.2))))

    all_written : (ds es : List FileDecl) → AllOther f body ds es → map (written_there shows path blocks types) ds ≡ map (written_there shows path blocks types) es
    all_written [] [] h = refl
    all_written [] (e ∷ es) h = elim h [ ]
    all_written (d ∷ ds) [] h = elim h [ ]
    all_written (d ∷ ds) (e ∷ es) h =
        ap (λ x. x ∷ map (written_there shows path blocks types) ds) (one_written d e h.0 h.0.decls) ∙ ap (λ l. written_there shows path blocks types e ∷ l) (all_written ds es h.1)

  module _ (s : SceneModel) (shows : Shows) (path : List ℕ) (blocks : BlocksModel) where
    abbrev form : FileDecl → FileForm
    form d = form_in s shows path blocks d

    -- by its file, the places of that and its form
    abbrev made : ℕ → List Place → FormTree → FileForm
    made file places tree = record { file = file; written = rules_for s shows path blocks file places; form = tree }

    one_same : {A : Type 0} (of : FileForm → A) → ((file : ℕ) (places : List Place) → of (made file places (FuncForm f)) ≡ of (made file places (FuncForm (with_body f body))))
        → (d e : FileDecl) → IsPlacedOther f body d e → IsOther f body d.decl e.decl → of (form d) ≡ of (form e)
    one_same of bodies d e h (inl same) =
        ap (λ k. of (made k d.outline.places d.decl.form)) h.files ∙ (ap (λ ps. of (made e.file ps d.decl.form)) h.places ∙ ap (λ (x : TopDeclTree). of (made e.file e.outline.places x.form)) same)
    one_same of bodies d e h (inr other) =
        ap (λ k. of (made k d.outline.places d.decl.form)) h.files
        ∙ (ap (λ ps. of (made e.file ps d.decl.form)) h.places
        ∙ (ap (λ tree. of (made e.file e.outline.places tree)) other.1 ∙ (bodies e.file e.outline.places ∙ ap (λ tree. of (made e.file e.outline.places tree)) (sym other.2))))

    rows_same : (ds es : List FileDecl) → AllOther f body ds es → all_needs s (map form ds) ≡ all_needs s (map form es)
    rows_same [] [] h = refl
    rows_same [] (e ∷ es) h = elim h [ ]
    rows_same (d ∷ ds) [] h = elim h [ ]
    rows_same (d ∷ ds) (e ∷ es) h =
        ap (λ row. row ∷ all_needs s (map form ds)) (one_same (form_needs s) (λ file places. refl) d e h.0 h.0.decls) ∙ ap (λ l. form_needs s (form e) ∷ l) (rows_same ds es h.1)

    faces_same : (known : ℕ → Option TheFace) (n : ℕ) (ds es : List FileDecl) → AllOther f body ds es → (i : ℕ) → face_of s known n (slice_get (map form ds) i) ≡ face_of s known n (slice_get (map form es) i)
    faces_same known n [] [] h i = refl
    faces_same known n [] (e ∷ es) h i = elim h [ ]
    faces_same known n (d ∷ ds) [] h i = elim h [ ]
    faces_same known n (d ∷ ds) (e ∷ es) h zero = one_same (λ x. face_of s known n (Some x)) (λ file places. refl) d e h.0 h.0.decls
    faces_same known n (d ∷ ds) (e ∷ es) h (suc i) = faces_same known n ds es h.1 i

    known_same : (ds es : List FileDecl) (t u : List (Option TheFace)) → AllOther f body ds es → AreFacesOf s (map form ds) t → AreFacesOf s (map form es) u → t ≡ u
    known_same ds es t u h at au =
        let back : AreValues TheFace (all_needs s (map form ds)) (face_at_position s (map form es)) u = subst (λ rows. AreValues TheFace rows (face_at_position s (map form es)) u) (sym (rows_same ds es h)) au in
        one_table TheFace (all_needs s (map form ds)) (face_at_position s (map form ds)) t u (looks_at_needs s (map form ds) (all_fixed s shows path blocks ds)) at
        (record { as_many = back.as_many; ends = back.ends; values = λ a v k. back.values a v k ∙ sym (faces_same (known_in u) a ds es h a); endless = back.endless })

-- what is to be shown of both packages
abbrev InFileStays : (x : Ident) (name : List ℕ) (f : FuncTree) (body : Lines) (types : List Entry) (n : ℕ) (t u : List (Option TheFace)) (g : FileTree) (ds : List TopTree) (p q : PackageIn) → Type 0
InFileStays x name f body types n t u g ds p q =
    (c : RespellsSteps x name (func_steps f) (func_steps (with_body f body)))
    × ContextStays Term Sign Declaration (List ℕ) (looks_where (stand_in q types u n (outline_of (with_decls g ds))) (names_before (stand_in q types u n (outline_of (with_decls g ds))) x name f (with_body f body) c)) x name
    (tops_spots (stand_in p types t n (outline_of g)) g.decls) (tops_uses (stand_in q types u n (outline_of (with_decls g ds))) ds)

module _ (x : Ident) (name : List ℕ) (f : FuncTree) (body : Lines) (r : RespellsLines x name f.body body) (n : ℕ) (p : PackageIn) (types : List Entry) (t u : List (Option TheFace)) (front back : List FileTree) (g : FileTree) (ds : List TopTree)
    (writes : WritesBody f body g.decls ds) where
  abbrev old : PackageIn
  old = with_trees p (front ++ g ∷ back)

  abbrev new : PackageIn
  new = with_trees p (front ++ with_decls g ds ∷ back)

  others : AllOther f body (decls_in old) (decls_in new)
  others = files_other f body 0 front back g ds writes

  -- what names of types mean, before and after
  abbrev names : Shows
  names = shows_in old

  names_same : shows_in new ≡ names
  names_same = sym (names_other p front back g ds f body writes)

  written_same : package_written (shows_in new) p.path p.blocks types (outlines_in new) ≡ package_written names p.path p.blocks types (outlines_in old)
  written_same =
      ap (λ (k : Shows). package_written k p.path p.blocks types (outlines_in new)) names_same
      ∙ (positions_are_exact.listed names p.path p.blocks types (outlines_in new)
      ∙ (sym (all_written f body names p.path p.blocks types (decls_in old) (decls_in new) others) ∙ sym (positions_are_exact.listed names p.path p.blocks types (outlines_in old))))

  abbrev scene_with : List WrittenOf → SceneModel
  scene_with ws = record { path = p.path; blocks = p.blocks; types = types; others = p.others; written = ws }

  scene_same : scene_in new types ≡ scene_in old types
  scene_same = ap scene_with written_same

  places_same : places_of g ≡ places_of (with_decls g ds)
  places_same = ap (map place_of) (outers_same f body g.decls ds writes)

  module _ (at : AreDeclared old types t) (au : AreDeclared new types u) where
    pub tables_same : t ≡ u
    tables_same =
        let s = scene_in old types in
        let in_scene : AreFacesOf s (map (form_in s (shows_in new) p.path p.blocks) (decls_in new)) u =
        subst (λ k. AreFacesOf k (map (form_in k (shows_in new) p.path p.blocks) (decls_in new)) u) scene_same (faces_of new types u au) in
        known_same f body s names p.path p.blocks (decls_in old) (decls_in new) t u others (faces_of old types t at)
        (subst (λ (k : Shows). AreFacesOf s (map (form_in s k p.path p.blocks) (decls_in new)) u) names_same in_scene)

    abbrev before : FileStand
    before = stand_in old types t n (outline_of g)

    abbrev after : FileStand
    after = stand_in new types u n (outline_of (with_decls g ds))

    stands_same : after ≡ before
    stands_same =
        ap (λ s. stand_for s (shows_in new) p.path p.blocks u n (places_of (with_decls g ds))) scene_same
        ∙ (ap (λ (k : Shows). stand_for (scene_in old types) k p.path p.blocks u n (places_of (with_decls g ds))) names_same
        ∙ (ap (λ known. stand_for (scene_in old types) names p.path p.blocks known n (places_of (with_decls g ds))) (sym tables_same)
        ∙ ap (stand_for (scene_in old types) names p.path p.blocks t n) (sym places_same)))

    -- among all that the file has
    file_stays : InFileStays x name f body types n t u g ds old new
    file_stays =
        let c = checked_stay after x name f (with_body f body) (InFuncBody r) in
        let looks = looks_where after (names_before after x name f (with_body f body) c.respells) in
        let here : ContextStays Term Sign Declaration (List ℕ) looks x name (func_spots before f) (checked_func after (with_body f body)).uses =
        subst (λ st. ContextStays Term Sign Declaration (List ℕ) looks x name (func_spots st f) (checked_func after (with_body f body)).uses) stands_same c.stays in
        (c.respells, in_bodies before after looks x name f body here g.decls ds writes)

pub bodies_stay : PackageBodiesStay
bodies_stay x name f body n p q types t u r h at au =
    let olds : List FileTree = h.front ++ h.file ∷ h.back in
    let news : List FileTree = h.front ++ with_decls h.file h.decls ∷ h.back in
    let old_is : p ≡ with_trees p olds = ap (with_trees p) h.before in
    let at' : AreDeclared (with_trees p olds) types t = subst (λ k. AreDeclared k types t) old_is at in
    let au' : AreDeclared (with_trees p news) types u = subst (λ k. AreDeclared k types u) h.after au in
    let there : InFileStays x name f body types n t u h.file h.decls (with_trees p olds) (with_trees p news) = file_stays x name f body r n p types t u h.front h.back h.file h.decls h.writes at' au' in
    let moved : InFileStays x name f body types n t u h.file h.decls p q =
    subst (λ k. InFileStays x name f body types n t u h.file h.decls p k) (sym h.after) (subst (λ k. InFileStays x name f body types n t u h.file h.decls k (with_trees p news)) (sym old_is) there) in
    record { known = tables_same x name f body r n p types t u h.front h.back h.file h.decls h.writes at' au'; respells = moved.0; stays = moved.1 }
