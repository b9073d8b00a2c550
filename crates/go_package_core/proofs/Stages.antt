-- The steps of the check of a package.
use Rattle.std.proofs.Common.{◌≡◌, ℕ, List, ◌++◌, All, map, length, refl, sym, ap, subst, ◌∙◌}
use Rattle.std.specs.Prelude.{Bool, Option}
use Rattle.std.specs.List.{AllZip, enumerate_from}
use Rattle.std.proofs.lemmas.List.{length-map}
use Rattle.std.proofs.lemmas.List.FromFn.{length-enumerate_from}
use Rattle.go_tree_nodes.specs.Trees.{FileTree}
use Rattle.go_term_core.specs.decl_core.declared.keys.DeclRef.{DeclRef}
use Rattle.go_term_core.specs.Terms.{Term}
use Rattle.go_body_core.specs.typexpr_core.AliasesAliases.{target_by}
use Rattle.go_type_core.specs.table_core.Entries.{Entry}
use Rattle.go_body_core.specs.typexpr_core.EntryMeanings.{Shows}
use Rattle.go_body_core.specs.typexpr_core.EntryOutlines.{FileOutline, outline_of}
use Rattle.go_report_core.specs.declared.type_faults.places.PackageFault.{PackageFault}
use Rattle.go_inline_core.specs.Types.{InlineOf}
use Rattle.go_report_core.specs.declared_core.Faces.{TheFace}
use Rattle.go_report_core.specs.declared_core.Here.{far_type}
use Rattle.go_report_core.specs.declared_core.Packages.{PackageFacesModel}
use Rattle.go_report_core.specs.declared_core.Written.{WrittenOf, decls_of, package_written}
use Rattle.go_body_core.specs.env_core.Scenes.{SceneModel}
use Rattle.go_value_core.specs.Package.{PlacedOf, placed_decls}
use Rattle.go_report_core.specs.handle_core.Declarations.{Declaration}
use Rattle.go_local_core.specs.declared.Fault.{Fault}
use Rattle.go_report_core.specs.Faults.{IsSettled}
use Rattle.go_body_core.specs.Notes.{TheUse}
use Rattle.go_package_values.proofs.Alike.{decls_stand_alike}
use Rattle.go_report_core.specs.answer.Shown.{package_shown}
use Rattle.go_package_core.specs.prepare.Inlines.{initial_in, initial_types, types_stand}
use Rattle.go_package_core.specs.prepare.Laws.{package_placed}
use Rattle.go_package_core.specs.prepare.Packages.{PackageIn, outlines_in, scene_in, shows_in, targets_in}
use Rattle.go_package_core.specs.prepare.Types.{AreTypes}
use Rattle.go_package_core.specs.prepare.Values.{AreDeclared, AreLooped}
use Rattle.go_package_core.specs.Checked.{AnswersOf, CheckedOf, IsChecked, IsFileChecked}

-- as many files have types as there are
pub initial_many : (p : PackageIn) (types : List Entry) (inl : List (List (ℕ × InlineOf))) (os : List FileOutline) → inl ≡ initial_in p types → os ≡ outlines_in p → length inl ≡ length os
initial_many p types inl os inl_is os_is =
    ap length inl_is
    ∙ (length-map (enumerate_from 0 (outlines_in p)) (λ o. initial_types (types_stand p types o) o.1)
    ∙ (length-enumerate_from 0 (outlines_in p) ∙ ap length (sym os_is)))

-- as many declarations are written as there are
pub written_many : (p : PackageIn) (types : List Entry) (ws : List WrittenOf) (inl : List (List (ℕ × InlineOf))) (os : List FileOutline) → ws ≡ (scene_in p types).written → os ≡ outlines_in p → length ws ≡ length (placed_decls inl os)
written_many p types ws inl os ws_is os_is =
    ap length ws_is ∙ (decls_stand_alike.as_many (shows_in p) p.path p.blocks types inl (outlines_in p) ∙ ap (λ l. length (placed_decls inl l)) (sym os_is))

-- what holds of the scene and the declarations that were made holds of those of the package
pub as_made : (p : PackageIn) (types : List Entry) (s : SceneModel) (inl : List (List (ℕ × InlineOf))) (os : List FileOutline) (T : SceneModel → List PlacedOf → Type 0)
    → s ≡ scene_in p types → inl ≡ initial_in p types → os ≡ outlines_in p → T s (placed_decls inl os) → T (scene_in p types) (package_placed p types)
as_made p types s inl os T s_is inl_is os_is h =
    subst (λ l. T (scene_in p types) (placed_decls (initial_in p types) l)) os_is
    (subst (λ i. T (scene_in p types) (placed_decls i os)) inl_is
    (subst (λ x. T x (placed_decls inl os)) s_is h))

-- the scene of a package
pub scene_is : (p : PackageIn) (types : List Entry) (s : SceneModel) (path : List ℕ) (ws : List WrittenOf) → s ≡ record { path = path; blocks = p.blocks; types = types; others = p.others; written = ws } → path ≡ p.path
    → ws ≡ (scene_in p types).written → s ≡ scene_in p types
scene_is p types s path ws is path_is ws_is = is ∙ (λ i. record { path = path_is i; blocks = p.blocks; types = types; others = p.others; written = ws_is i })

-- all of it
pub checked_is : (p : PackageIn) (far own types : List Entry) (faults : List PackageFault) (known held : List (Option TheFace)) (looped : List Bool) (files : List AnswersOf) (faces : PackageFacesModel)
    → types ≡ far ++ own → AreTypes p far own faults → AreDeclared p types known → AreLooped p types looped → AllZip (IsFileChecked p types known faults looped) (enumerate_from 0 p.trees) files
    → faces ≡ package_shown p.path p.blocks (decls_of (scene_in p types).written) known → held ≡ known → IsChecked p far (record { types = own; declared = held; faces = faces; files = files })
checked_is p far own types faults known held looped files faces table of_types declared constants of_files of_faces same =
    subst (λ k. IsChecked p far (record { types = own; declared = k; faces = faces; files = files })) (sym same) (record {
      type_faults = faults;
      types = of_types;
      declared = subst (λ t. AreDeclared p t known) table declared;
      looped = looped;
      constants = subst (λ t. AreLooped p t looped) table constants;
      files = subst (λ t. AllZip (IsFileChecked p t known faults looped) (enumerate_from 0 p.trees) files) table of_files;
      faces = of_faces ∙ ap (λ t. package_shown p.path p.blocks (decls_of (scene_in p t).written) known) table;
    })

-- settled faults, of the same outcomes and faults
pub settled_of : (us vs : List TheUse) (fs gs xs : List Fault) → us ≡ vs → fs ≡ gs → IsSettled Declaration (List ℕ) us fs xs → IsSettled Declaration (List ℕ) vs gs xs
settled_of us vs fs gs xs same also h = subst (λ l. IsSettled Declaration (List ℕ) vs l xs) also (subst (λ l. IsSettled Declaration (List ℕ) l fs xs) same h)

-- what names of types lead to

abbrev pub names_with : PackageIn → List ℕ → List (DeclRef × Term) → Shows
names_with p path targets = record { shown = p.shows; target = target_by path targets (far_type p.others) }

pub names_are : (p : PackageIn) (path : List ℕ) (targets : List (DeclRef × Term)) → path ≡ p.path → targets ≡ targets_in p → names_with p path targets ≡ shows_in p
names_are p path targets path_is targets_are = λ i. names_with p (path_is i) (targets_are i)
