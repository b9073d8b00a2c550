-- By the tables of what packages tell a package has the object, and parts have the objects, that they have over what these packages tell.
use Rattle.std.proofs.Common.{◌≡◌, Bool, true, if◌then◌else◌, List, Some, None, sym, ap, ◌∙◌}
use Rattle.std.specs.List.{flat_map}
use Rattle.go_declared_core.specs.handle_core.Declarations.{Declaration}
use Rattle.go_package_core.specs.summary_core.Summaries.{SummaryModel}
use Rattle.go_package_core.specs.summary_core.Views.{faces_told, types_told}
use Rattle.go_object_core.specs.Objects.{ObjectOf}
use Rattle.go_package_core.specs.prepare.Packages.{trees_in}
use Rattle.go_package_core.specs.package_part.Inputs.{InputModel, path_in}
use Rattle.go_package_core.specs.package_part.Parts.{ContentOf, PartModel}
use Rattle.go_emit_core.specs.declared.meaning.tables.Tables.{Tables}
use Rattle.go_emit_core.specs.Emitted.{are_clean, object_in, object_of, objects_over, code_scene_over, told_to, whole_object}
use Rattle.go_emit_core.specs.meaning.Scenes.{methods_spotted, package_decl_refs}
use Rattle.go_emit_core.specs.meaning.mirrors.Naming.{scene_from, scene_with}
use Rattle.go_emit_core.specs.mirrors.Naming.{objects_with}
use Rattle.go_package_core.specs.package_part.Slots.{if_there}

-- these are the tables of what some packages tell
module _ (t : Tables) (all : List SummaryModel) (types : t.types.now ≡ types_told all) (methods : t.methods ≡ methods_spotted (types_told all) (types_told all)) (faces : t.faces.now ≡ faces_told all) where
  scene_told : (i : InputModel) (c : ContentOf) → scene_with t i c ≡ code_scene_over all i c
  scene_told i c = λ k. scene_from (types k) (methods k) (faces k) (path_in i) (package_decl_refs 0 (trees_in i.source)) c.declared

  pub object_over_told : (i : InputModel) (c : ContentOf) (o : ObjectOf Declaration) → o ≡ whole_object (scene_with t i c) i c → all ≡ told_to i c → o ≡ whole_object (code_scene_over (told_to i c) i c) i c
  object_over_told i c o made told =
      made ∙ (ap (λ s. whole_object s i c) (scene_told i c) ∙ ap (λ (ss : List SummaryModel). whole_object (code_scene_over ss i c) i c) told)

  pub objects_told : (ps : List PartModel) → flat_map (objects_with t) ps ≡ objects_over all ps
  objects_told ps =
      λ k. flat_map (λ (p : PartModel). if_there (object_in (scene_from (types k) (methods k) (faces k) (path_in p.input) (package_decl_refs 0 (trees_in p.input.source)) p.content.declared) p.input p.content)) ps

-- a package of which nothing is reported has its object
pub clean_object : (i : InputModel) (c : ContentOf) (o : ObjectOf Declaration) → o ≡ whole_object (code_scene_over (told_to i c) i c) i c → are_clean c.files ≡ true → Some o ≡ object_of i c
clean_object i c o made clean =
    ap Some made ∙ sym (ap (λ (b : Bool). if b then Some (whole_object (code_scene_over (told_to i c) i c) i c) else None) clean)
