-- The initialisers of a package in which one identifier is spelled anew.
use Rattle.std.proofs.Common.{◌≡◌, ◌⊎◌, ℕ, zero, suc, inl, inr, List, [], ◌∷◌, ◌++◌, map, length, slice_get, refl, sym, ap, subst, ◌∙◌}
use Rattle.std.specs.Prelude.{Option}
use Rattle.go_tree_nodes.specs.declared.names.Ident.{Ident}
use Rattle.go_tree_nodes.specs.declared.decls.ValueKind.{ValueKind}
use Rattle.go_tree_nodes.specs.Trees.{TypeTree, ValueSpecTree, TopTree, FileTree}
use Rattle.go_term_core.specs.decl_core.declared.places.Place.{Place}
use Rattle.go_term_core.specs.decl_core.Outer.{places_of, kind_of_value}
use Rattle.go_term_core.specs.decl_core.TopDecls.{FormTree, ValueForm, TypeForm, FuncForm, TopDeclTree, kind_of_form}
use Rattle.go_names_core.specs.block_core.Blocks.{BlocksModel}
use Rattle.go_type_core.specs.table_core.Entries.{Entry}
use Rattle.go_term_core.specs.Terms.{Term, Sign}
use Rattle.go_typexpr_core.specs.written.Written.{InFile}
use Rattle.go_typexpr_core.specs.entry.Outlines.{outline_of}
use Rattle.go_typexpr_core.specs.entry.Meanings.{Shows, file_meaning}
use Rattle.go_candidate_core.specs.handle_core.Declarations.{Declaration}
use Rattle.go_stmt_core.specs.expr_core.Looks.{WrittenRules}
use Rattle.go_candidate_core.specs.declared_core.Faces.{TheFace}
use Rattle.go_candidate_core.specs.declared_core.Laws.{FileDecl, written_there}
use Rattle.go_candidate_core.specs.declared_core.Written.{WrittenOf, form_as_written, value_as_written, package_written}
use Rattle.go_candidate_core.specs.declared_core.Places.{positions_are_exact}
use Rattle.go_package_core.specs.env_core.Scenes.{SceneModel}
use Rattle.go_package_core.specs.env_core.Looks.{TheLooks}
use Rattle.go_digraph_core.specs.needs.Needs.{AreValues, known_in}
use Rattle.go_stmt_core.specs.piece.Specifications.{spec_uses}
use Rattle.go_snap_core.specs.value_core.Laws.{FormsAlike}
use Rattle.go_package_core.specs.body_core.FunctionStands.{FileStand, types_where, outer_look, outer_looks}
use Rattle.go_package_core.specs.prepare.Packages.{PackageIn, outlines_in, shows_in, scene_in, stand_in}
use Rattle.go_package_core.specs.prepare.Values.{file_decl_needs, decls_in, some_decl_face, AreDeclared}
use Rattle.go_complete_core.specs.spelling.Contexts.{ContextStays}
use Rattle.go_complete_core.specs.spelling.Package.{FileForm, AllFixed, all_needs, face_of, face_at_position, AreFacesOf, IsAsItWas, IsWrittenAnew, AreWrittenAnew}
use Rattle.go_complete_core.specs.spelling.PieceSpots.{spec_spots}
use Rattle.go_complete_core.specs.spelling.Trees.{RespellsValues}
use Rattle.go_complete_core.proofs.SpellingAnew.{initial_stays}
use Rattle.go_complete_core.specs.spelling.Files.{WritesInTops, with_decls, with_trees}
use Rattle.go_complete_core.specs.spelling.Packages.{PackageInitialisersStay, FileInitialisersStay}
use Rattle.go_complete_core.proofs.SpellingInFiles.{in_tops}
use Rattle.go_complete_core.proofs.SpellingPlaces.{tops_same}
use Rattle.go_complete_core.proofs.SpellingFileListed.{IsAnew, IsPlacedAnew, AllAnew, type_same, package_anew}
use Rattle.go_complete_core.proofs.SpellingNames.{names_anew}
use Rattle.go_names_core.specs.block_core.Declarations.{decl_ref}

-- a declaration with what the types are that its file writes

module _ (s : SceneModel) (shows : Shows) (path : List ℕ) (blocks : BlocksModel) where
  abbrev pub stand_for : List (Option TheFace) → ℕ → List Place → FileStand
  stand_for known n places = record { scene = s; known = known; file = record { path = path; file = n; places = places }; top = file_meaning shows path blocks n }

  abbrev pub rules_for : ℕ → List Place → WrittenRules Term
  rules_for n places = types_where (stand_for [] n places) (outer_look (stand_for [] n places))

  abbrev pub form_in : FileDecl → FileForm
  form_in d = record { file = d.file; written = rules_for d.file d.outline.places; form = d.decl.form }

  pub all_fixed : (ds : List FileDecl) → AllFixed (map form_in ds)
  all_fixed [] = tt
  all_fixed (d ∷ ds) = (λ named other t. (refl, refl), all_fixed ds)

  form_alike : (f : FormTree) → FormsAlike f f
  form_alike (ValueForm k v i) = refl
  form_alike (TypeForm t) = tt
  form_alike (FuncForm f) = tt

  module _ (n : ℕ) (v w : ValueSpecTree) where
    rules_same : (d e : FileDecl) → IsPlacedAnew n v w d e → (form_in d).written ≡ (form_in e).written
    rules_same d e h = ap (λ k. rules_for k d.outline.places) h.files ∙ ap (rules_for e.file) h.places

    form_anew : (d e : FileDecl) (h : IsPlacedAnew n v w d e) → ((d.decl ≡ e.decl) ⊎ ((d.file ≡ n) × IsAnew v w d.decl e.decl)) → IsAsItWas (form_in d) (form_in e) ⊎ IsWrittenAnew n v w (form_in d) (form_in e)
    form_anew d e h (inl same) = inl (record { files = h.files; written = rules_same d e h; forms = subst (λ (x : TopDeclTree). FormsAlike d.decl.form x.form) same (form_alike d.decl.form) })
    form_anew d e h (inr anew) = inr (record {
      here = anew.0;
      files = h.files;
      written = rules_same d e h;
      kind = anew.1.kind;
      number = anew.1.position;
      before = anew.1.before;
      after = anew.1.after;
    })

    forms_anew : (ds es : List FileDecl) → AllAnew n v w ds es → AreWrittenAnew n v w (map form_in ds) (map form_in es)
    forms_anew [] [] h = tt
    forms_anew [] (e ∷ es) h = elim h [ ]
    forms_anew (d ∷ ds) [] h = elim h [ ]
    forms_anew (d ∷ ds) (e ∷ es) h = (form_anew d e h.0 h.0.decls, forms_anew ds es h.1)

-- what is written of declarations

module _ (shows : Shows) (path : List ℕ) (blocks : BlocksModel) (types : List Entry) (n : ℕ) (v w : ValueSpecTree) (types_same : v.type_expr ≡ w.type_expr) where
  abbrev written_at_place : ℕ → List Place → ℕ → FormTree → WrittenOf
  written_at_place file places number form =
      let f : InFile = record { path = path; file = file; places = places } in
      record { decl = decl_ref file number (kind_of_form form); face = form_as_written (file_meaning shows path blocks file) f types number form }

  one_written : (d e : FileDecl) → IsPlacedAnew n v w d e → ((d.decl ≡ e.decl) ⊎ ((d.file ≡ n) × IsAnew v w d.decl e.decl)) → written_there shows path blocks types d ≡ written_there shows path blocks types e
  one_written d e h (inl same) =
      ap (λ k. written_at_place k d.outline.places d.decl.number d.decl.form) h.files
      ∙ (ap (λ ps. written_at_place e.file ps d.decl.number d.decl.form) h.places
      ∙ ap (λ (x : TopDeclTree). written_at_place e.file e.outline.places x.number x.form) same)
  one_written d e h (inr anew) =
      ap (λ k. written_at_place k d.outline.places d.decl.number d.decl.form) h.files
      ∙ (ap (λ ps. written_at_place e.file ps d.decl.number d.decl.form) h.places
      ∙ (ap (λ m. written_at_place e.file e.outline.places m d.decl.form) anew.1.numbers
      ∙ (ap (written_at_place e.file e.outline.places e.decl.number) anew.1.before
      ∙ (value_written e.file e.outline.places e.decl.number anew.1.kind anew.1.position
      ∙ ap (written_at_place e.file e.outline.places e.decl.number) (sym anew.1.after)))))
    where
      value_written : (file : ℕ) (places : List Place) (number : ℕ) (k : ValueKind) (i : ℕ) → written_at_place file places number (ValueForm k v i) ≡ written_at_place file places number (ValueForm k w i)
      value_written file places number k i =
          let f : InFile = record { path = path; file = file; places = places } in
          let Made : Option TypeTree → WrittenOf = λ o. record { decl = decl_ref file number (kind_of_value k); face = value_as_written (file_meaning shows path blocks file) f types k o } in
          ap Made types_same

  all_written : (ds es : List FileDecl) → AllAnew n v w ds es → map (written_there shows path blocks types) ds ≡ map (written_there shows path blocks types) es
  all_written [] [] h = refl
  all_written [] (e ∷ es) h = elim h [ ]
  all_written (d ∷ ds) [] h = elim h [ ]
  all_written (d ∷ ds) (e ∷ es) h =
      ap (λ x. x ∷ map (written_there shows path blocks types) ds) (one_written d e h.0 h.0.decls) ∙ ap (λ l. written_there shows path blocks types e ∷ l) (all_written ds es h.1)

-- what the declarations are

module _ (p : PackageIn) (types : List Entry) where
  abbrev s : SceneModel
  s = scene_in p types

  abbrev form : FileDecl → FileForm
  form d = form_in s (shows_in p) p.path p.blocks d

  rows_same : (ds : List FileDecl) → map (file_decl_needs s) ds ≡ all_needs s (map form ds)
  rows_same [] = refl
  rows_same (d ∷ ds) = ap (λ l. file_decl_needs s d ∷ l) (rows_same ds)

  face_same : (known : ℕ → Option TheFace) (n : ℕ) (ds : List FileDecl) (i : ℕ) → some_decl_face p types known n (slice_get ds i) ≡ face_of s known n (slice_get (map form ds) i)
  face_same known n [] i = refl
  face_same known n (d ∷ ds) zero = refl
  face_same known n (d ∷ ds) (suc i) = face_same known n ds i

  pub faces_of : (t : List (Option TheFace)) → AreDeclared p types t → AreFacesOf s (map form (decls_in p)) t
  faces_of t at =
      subst (λ rows. AreValues TheFace rows (face_at_position s (map form (decls_in p))) t) (rows_same (decls_in p))
      (record { as_many = at.as_many; ends = at.ends; values = λ a v h. at.values a v h ∙ face_same (known_in t) a (decls_in p) a; endless = at.endless })

module _ (x : Ident) (name : List ℕ) (v w : ValueSpecTree) (r : RespellsValues x name v w) (n : ℕ) (p : PackageIn) (types : List Entry) (t u : List (Option TheFace)) (front back : List FileTree) (f : FileTree) (ds : List TopTree)
    (writes : WritesInTops v w f.decls ds) (here : n ≡ length front) where
  abbrev g : FileTree
  g = with_decls f ds

  abbrev old : PackageIn
  old = with_trees p (front ++ f ∷ back)

  abbrev new : PackageIn
  new = with_trees p (front ++ g ∷ back)

  anew : AllAnew n v w (decls_in old) (decls_in new)
  anew = package_anew x name v w r front back f ds writes n here

  -- what names of types mean, before and after
  abbrev names : Shows
  names = shows_in old

  names_same : shows_in new ≡ names
  names_same = sym (names_anew p front back f ds x name v w r writes)

  written_same : package_written (shows_in new) p.path p.blocks types (outlines_in new) ≡ package_written names p.path p.blocks types (outlines_in old)
  written_same =
      ap (λ (k : Shows). package_written k p.path p.blocks types (outlines_in new)) names_same
      ∙ (positions_are_exact.listed names p.path p.blocks types (outlines_in new)
      ∙ (sym (all_written names p.path p.blocks types n v w (type_same x name v w r) (decls_in old) (decls_in new) anew) ∙ sym (positions_are_exact.listed names p.path p.blocks types (outlines_in old))))

  abbrev scene_with : List WrittenOf → SceneModel
  scene_with ws = record { path = p.path; blocks = p.blocks; types = types; others = p.others; written = ws }

  scene_same : scene_in new types ≡ scene_in old types
  scene_same = ap scene_with written_same

  abbrev looks_for : SceneModel → Shows → List Place → List (Option TheFace) → TheLooks
  looks_for s shows places known = outer_looks (stand_for s shows p.path p.blocks known n places)

  places_same : places_of f ≡ places_of g
  places_same = tops_same x name v w r f.decls ds writes

  new_looks : looks_for (scene_in new types) (shows_in new) (places_of g) u ≡ looks_for (scene_in old types) names (places_of f) u
  new_looks =
      ap (λ s. looks_for s (shows_in new) (places_of g) u) scene_same
      ∙ (ap (λ (k : Shows). looks_for (scene_in old types) k (places_of g) u) names_same ∙ ap (λ ps. looks_for (scene_in old types) names ps u) (sym places_same))

  pub stays : AreDeclared old types t → AreDeclared new types u
      → ContextStays Term Sign Declaration (List ℕ) (outer_looks (stand_in new types u n (outline_of g))) x name (spec_spots (outer_looks (stand_in old types t n (outline_of f))) v) (spec_uses (outer_looks (stand_in new types u n (outline_of g))) w)
  stays at au =
      let s = scene_in old types in
      let forms : List FileDecl → List FileForm = map (form_in s names p.path p.blocks) in
      let in_scene : AreFacesOf s (map (form_in s (shows_in new) p.path p.blocks) (decls_in new)) u =
      subst (λ k. AreFacesOf k (map (form_in k (shows_in new) p.path p.blocks) (decls_in new)) u) scene_same (faces_of new types u au) in
      let au' : AreFacesOf s (forms (decls_in new)) u = subst (λ (k : Shows). AreFacesOf s (map (form_in s k p.path p.blocks) (decls_in new)) u) names_same in_scene in
      subst (λ k. ContextStays Term Sign Declaration (List ℕ) k x name (spec_spots (looks_for s names (places_of f) t) v) (spec_uses k w)) (sym new_looks)
      (initial_stays s (forms (decls_in old)) (forms (decls_in new)) t u n (rules_for s names p.path p.blocks n (places_of f)) x name v w r
      (forms_anew s names p.path p.blocks n v w (decls_in old) (decls_in new) anew) (all_fixed s names p.path p.blocks (decls_in old)) (all_fixed s names p.path p.blocks (decls_in new)) (λ named other k. (refl, refl))
      (faces_of old types t at) au')

pub initialisers_stay : PackageInitialisersStay
initialisers_stay x name v w n p q types t u r h at au =
    let old_is : p ≡ with_trees p (h.front ++ h.file ∷ h.back) = ap (with_trees p) h.before in
    let After : PackageIn → TheLooks = λ k. outer_looks (stand_in k types u n (outline_of (with_decls h.file h.decls))) in
    let Before : PackageIn → TheLooks = λ k. outer_looks (stand_in k types t n (outline_of h.file)) in
    subst (λ k. ContextStays Term Sign Declaration (List ℕ) (After k) x name (spec_spots (Before p) v) (spec_uses (After k) w)) (sym h.after)
    (subst (λ k. ContextStays Term Sign Declaration (List ℕ) (After (with_trees p (h.front ++ with_decls h.file h.decls ∷ h.back))) x name (spec_spots (Before k) v) (spec_uses (After (with_trees p (h.front ++ with_decls h.file h.decls ∷ h.back))) w)) (sym old_is)
    (stays x name v w r n p types t u h.front h.back h.file h.decls h.writes h.number (subst (λ k. AreDeclared k types t) old_is at) (subst (λ k. AreDeclared k types u) h.after au)))

pub files_stay : FileInitialisersStay
files_stay x name v w n p q types t u r h at au =
    let old = stand_in p types t n (outline_of h.file) in
    let new = stand_in q types u n (outline_of (with_decls h.file h.decls)) in
    in_tops old new (outer_looks new) x name v w (initialisers_stay x name v w n p q types t u r h at au) h.file.decls h.decls h.writes
