-- What packages tell, and what trees give.
use Rattle.std.proofs.Common.{◌≡◌, ◌++◌, ℕ, List, [], ◌∷◌, Option, Some, None, refl, ap, subst, ◌∙◌}
use Rattle.std.specs.Prelude.{slice_get}
use Rattle.std.specs.List.{AllZip}
use Rattle.go_emit_core.specs.package_core.PreparePackages.{trees_in}
use Rattle.go_graph_core.specs.Workspaces.{PackageModel}
use Rattle.go_graph_core.proofs.Zips.{zip_at}
use Rattle.go_emit_core.specs.package_core.PackagePartParts.{PartModel}
use Rattle.go_snap_core.specs.whole_workspace.Entries.{IsPartAmong, IsPartEntry}
use Rattle.go_snap_core.specs.whole_workspace.Whole.{WholeOf}
use Rattle.go_emit_core.specs.Emitted.{object_in, object_over, told_by}
use Rattle.go_emit_core.specs.meaning.Scenes.{package_decl_refs, scene_by}
use Rattle.go_report_core.specs.summary_core.Summaries.{SummaryModel}
use Rattle.go_report_core.specs.summary_core.Views.{faces_told, types_told}
use Rattle.go_workspace_laws.specs.Trees.{all_faces, all_types, scene_of_trees}
use Rattle.go_workspace_laws.specs.TreeLaws.{AreToldByTrees}
use Rattle.go_emit_core.specs.package_core.PackagePartSlots.{somes}

types_are : (ws : List (Option WholeOf)) (parts : List (Option PartModel)) → AllZip IsPartEntry ws parts → types_told (told_by (somes parts)) ≡ all_types ws
types_are [] [] h = refl
types_are [] (x ∷ xs) h = absurd h
types_are (w ∷ ws) [] h = absurd h
types_are (None ∷ ws) (None ∷ xs) h = types_are ws xs h.1
types_are (None ∷ ws) (Some p ∷ xs) h = absurd h.0
types_are (Some w ∷ ws) (None ∷ xs) h = absurd h.0
types_are (Some w ∷ ws) (Some p ∷ xs) h = ap (λ (s : SummaryModel). s.types.entries ++ types_told (told_by (somes xs))) h.0.summary ∙ ap (λ es. w.checked.types ++ es) (types_are ws xs h.1)

faces_are : (ws : List (Option WholeOf)) (parts : List (Option PartModel)) → AllZip IsPartEntry ws parts → faces_told (told_by (somes parts)) ≡ all_faces ws
faces_are [] [] h = refl
faces_are [] (x ∷ xs) h = absurd h
faces_are (w ∷ ws) [] h = absurd h
faces_are (None ∷ ws) (None ∷ xs) h = faces_are ws xs h.1
faces_are (None ∷ ws) (Some p ∷ xs) h = absurd h.0
faces_are (Some w ∷ ws) (None ∷ xs) h = absurd h.0
faces_are (Some w ∷ ws) (Some p ∷ xs) h = ap (λ (s : SummaryModel). s.faces ∷ faces_told (told_by (somes xs))) h.0.summary ∙ ap (λ fs. w.checked.faces ∷ fs) (faces_are ws xs h.1)

pub told_by_trees : (ws : List (Option WholeOf)) (parts : List (Option PartModel)) → AllZip IsPartEntry ws parts → AreToldByTrees ws parts
told_by_trees ws parts zip = record { types = types_are ws parts zip; faces = faces_are ws parts zip }

among : (w : WholeOf) (p : PartModel) (y : Option PartModel) → y ≡ Some p → IsPartEntry (Some w) y → IsPartAmong w p
among w p y e h = subst (λ z. IsPartEntry (Some w) z) e h

module _ (ws : List (Option WholeOf)) (parts : List (Option PartModel)) (zip : AllZip IsPartEntry ws parts) where
  scene_is : (w : WholeOf) (p : PartModel) → IsPartAmong w p → object_over (told_by (somes parts)) p.input p.content ≡ object_in (scene_of_trees ws w) p.input p.content
  scene_is w p h =
      ap (λ (s : PackageModel). object_in (scene_by s.0 (package_decl_refs 0 (trees_in s)) p.content.declared (types_told (told_by (somes parts))) (faces_told (told_by (somes parts)))) p.input p.content) h.source
      ∙ (ap (λ ds. object_in (scene_by w.source.0 (package_decl_refs 0 (trees_in w.source)) ds (types_told (told_by (somes parts))) (faces_told (told_by (somes parts)))) p.input p.content) h.declared
      ∙ (ap (λ ts. object_in (scene_by w.source.0 (package_decl_refs 0 (trees_in w.source)) w.checked.declared ts (faces_told (told_by (somes parts)))) p.input p.content) (types_are ws parts zip)
      ∙ ap (λ fs. object_in (scene_by w.source.0 (package_decl_refs 0 (trees_in w.source)) w.checked.declared (all_types ws) fs) p.input p.content) (faces_are ws parts zip)))

  pub object_is : (n : ℕ) (p : PartModel) (w : WholeOf) → slice_get parts n ≡ Some (Some p) → slice_get ws n ≡ Some (Some w) → object_over (told_by (somes parts)) p.input p.content ≡ object_in (scene_of_trees ws w) p.input p.content
  object_is n p w mine whole =
      let z = zip_at IsPartEntry ws parts n (Some w) zip whole in
      let same : z.0 ≡ Some p = cc in
      scene_is w p (among w p z.0 same z.2)
