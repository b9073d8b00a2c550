-- What a package's own declarations and those of others come to in its code, over what the packages tell that it reaches and what it tells itself.
use Rattle.std.proofs.Common.{◌≡◌, inl, inr, ℕ, Bool, true, false, List, [], ◌∷◌, ◌++◌, Option, Some, None, refl, sym, ap, ◌∙◌, append-nil}
use Rattle.std.specs.Prelude.{if◌then◌else◌}
use Rattle.std.specs.Str.{bytes_eq}
use Rattle.std.proofs.lemmas.Grind.{flat_map-append}
use Rattle.go_term_core.specs.decl_core.declared.keys.DeclRef.{DeclRef}
use Rattle.go_body_core.specs.table_core.Entries.{Entry}
use Rattle.go_body_core.specs.table_core.Finding.{bytes_same}
use Rattle.go_body_core.specs.typexpr_core.EntryEntries.{package_meanings}
use Rattle.go_emit_core.specs.declared_core.Packages.{PackageFacesModel, face_among, face_in_some, package_in}
use Rattle.go_emit_core.specs.declared_core.Written.{decls_of, position_of}
use Rattle.go_report_core.specs.answer.Shown.{exported_decls, package_shown, shown_among}
use Rattle.go_emit_core.specs.package_core.PreparePackages.{PackageIn, scene_in, shows_in, trees_in}
use Rattle.go_body_core.specs.env_core.Found.{face_at}
use Rattle.go_report_core.specs.summary_core.Summaries.{SummaryModel, IsOfOne, path_of}
use Rattle.go_report_core.specs.summary_core.Views.{faces_told, types_told}
use Rattle.go_report_core.specs.summary_core.Viewed.{text_apart}
use Rattle.go_emit_core.specs.package_core.PackagePartInputs.{InputModel, IsInput, path_in}
use Rattle.go_emit_core.specs.package_core.PackagePartParts.{ContentOf, IsPart, package_seen, seen_by}
use Rattle.go_emit_core.specs.Emitted.{code_scene_over, told_to}
use Rattle.go_emit_core.specs.meaning.Meanings.{some_face_meaning}
use Rattle.go_emit_core.specs.meaning.Scenes.{CodeScene, decl_meaning, own_or, own_spotted, package_decl_refs}
use Rattle.go_emit_core.specs.lookup.Places.{spotted_meaning, decl_spot}
use Rattle.go_workspace_laws.proofs.ConstantLists.{HasItem, has_of_all}
use Rattle.go_workspace_laws.proofs.Own.{elsewhere, own_means, written_decls}

-- what packages show, with one more behind them

none_here : (ss : List SummaryModel) (path : List ℕ) → ((s : SummaryModel) → HasItem ss s → path ≡ s.faces.path → ⊥) → package_in (faces_told ss) path ≡ None
none_here [] path h = refl
none_here (s ∷ ss) path h =
    ap (λ (b : Bool). if b then Some s.faces else package_in (faces_told ss) path) (text_apart path s.faces.path (h s (inl refl))) ∙ none_here ss path (λ t k. h t (inr k))

faces_last : (ss : List SummaryModel) (s : SummaryModel) (path : List ℕ) → package_in (faces_told ss) path ≡ None → package_in (faces_told (ss ++ s ∷ [])) path ≡ package_in (s.faces ∷ []) path
faces_last [] s path e = refl
faces_last (t ∷ ts) s path e = by (bytes_eq path t.faces.path) e (faces_last ts s path)
  where
    by : (b : Bool) → (if b then Some t.faces else package_in (faces_told ts) path) ≡ None
        → (package_in (faces_told ts) path ≡ None → package_in (faces_told (ts ++ s ∷ [])) path ≡ package_in (s.faces ∷ []) path)
        → (if b then Some t.faces else package_in (faces_told (ts ++ s ∷ [])) path) ≡ package_in (s.faces ∷ []) path
    by true e rest = absurd cc
    by false e rest = rest e

faces_other : (ss : List SummaryModel) (s : SummaryModel) (path : List ℕ) → (path ≡ s.faces.path → ⊥) → package_in (faces_told (ss ++ s ∷ [])) path ≡ package_in (faces_told ss) path
faces_other [] s path apart = ap (λ (b : Bool). if b then Some s.faces else None) (text_apart path s.faces.path apart)
faces_other (t ∷ ts) s path apart = ap (λ (o : Option PackageFacesModel). if bytes_eq path t.faces.path then Some t.faces else o) (faces_other ts s path apart)

module _ (i : InputModel) (c : ContentOf) (well : IsInput i) (part : IsPart i c) where
  abbrev pub seen : PackageIn
  seen = package_seen i c.blocks (seen_by i)

  abbrev pub table : List Entry
  table = types_told (told_to i c)

  abbrev scene : CodeScene
  scene = code_scene_over (told_to i c) i c

  abbrev own_decls : List DeclRef
  own_decls = package_decl_refs 0 (trees_in i.source)

  abbrev shown_decls : List DeclRef
  shown_decls = exported_decls c.blocks.names

  -- the types are those that are told, and the package's own
  pub types_are : types_told (told_to i c) ≡ types_told i.reached ++ part.checked.types
  types_are =
      flat_map-append (λ (s : SummaryModel). s.types.entries) i.reached (c.summary ∷ [])
      ∙ ap (λ l. types_told i.reached ++ l) (append-nil c.summary.types.entries ∙ ap (λ (s : SummaryModel). s.types.entries) part.summary)

  decls_are : (es : List Entry) → decls_of (scene_in seen es).written ≡ package_decl_refs 0 (trees_in i.source)
  decls_are es = written_decls (package_meanings (shows_in seen) seen.path seen.blocks) seen.path es (trees_in i.source)

  faces_are : c.summary.faces ≡ package_shown (path_in i) c.blocks own_decls c.declared
  faces_are =
      ap (λ (s : SummaryModel). s.faces) part.summary
      ∙ (part.is_checked.faces
      ∙ (ap (λ ds. package_shown (path_in i) c.blocks ds part.checked.declared) (decls_are (types_told i.reached ++ part.checked.types)) ∙ ap (λ ks. package_shown (path_in i) c.blocks own_decls ks) (sym part.declared)))

  -- no package that is reached has the path of the package itself
  reached_elsewhere : (s : SummaryModel) → HasItem i.reached s → path_in i ≡ s.faces.path → ⊥
  reached_elsewhere s h e =
      has_of_all (λ (x : SummaryModel). path_in i ≡ path_of x → ⊥) i.reached s well.reached.others h (e ∙ (has_of_all IsOfOne i.reached s well.own h).faces)

  pub none_own : package_in (faces_told i.reached) (path_in i) ≡ None
  none_own = none_here i.reached (path_in i) reached_elsewhere

  -- a declaration of another package
  pub decl_other : (q : List ℕ) (d : DeclRef) → (q ≡ path_in i → ⊥) → decl_meaning scene q d ≡ some_face_meaning table (face_in_some (package_in (faces_told i.reached) q) d)
  decl_other q d apart =
      ap (λ o. own_or o (some_face_meaning table (face_in_some (package_in (faces_told (told_to i c)) q) d))) (elsewhere table (path_in i) q d own_decls c.declared apart)
      ∙ ap (λ o. some_face_meaning table (face_in_some o d)) (faces_other i.reached c.summary q (λ e. apart (e ∙ ap (λ (m : PackageFacesModel). m.path) faces_are)))

  -- one of its own
  own_shown : (d : DeclRef) → face_in_some (package_in (faces_told (told_to i c)) (path_in i)) d ≡ face_among (shown_among shown_decls own_decls c.declared) d
  own_shown d =
      ap (λ o. face_in_some o d) (faces_last i.reached c.summary (path_in i) none_own)
      ∙ (ap (λ (b : Bool). face_in_some (if b then Some c.summary.faces else None) d) (bytes_same (path_in i) c.summary.faces.path (sym (ap (λ (m : PackageFacesModel). m.path) faces_are)))
      ∙ ap (λ (m : PackageFacesModel). face_among m.faces d) faces_are)

  pub decl_own : (d : DeclRef) → decl_meaning scene (path_in i) d ≡ some_face_meaning table (face_at c.declared (position_of (scene_in seen table).written d))
  decl_own d =
      ap (λ o. own_or (spotted_meaning (own_spotted table (path_in i) own_decls c.declared) (decl_spot (path_in i) d)) (some_face_meaning table o)) (own_shown d)
      ∙ (ap (λ ds. own_or (spotted_meaning (own_spotted table (path_in i) ds c.declared) (decl_spot (path_in i) d)) (some_face_meaning table (face_among (shown_among shown_decls ds c.declared) d))) (sym (decls_are table))
      ∙ own_means table (path_in i) shown_decls d (scene_in seen table).written c.declared)
