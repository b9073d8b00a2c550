-- What the parts of a workspace are made from is an input each.
use Rattle.std.proofs.Common.{◌≡◌, ℕ, List, All, Option, Some, sym, subst, ◌∙◌}
use Rattle.std.specs.Prelude.{slice_get}
use Rattle.go_graph_core.specs.Packages.{trees_of}
use Rattle.go_graph_core.proofs.PlanLaws.{has_plan}
use Rattle.go_graph_core.specs.Workspaces.{PackageModel, IsWorkspace}
use Rattle.go_names_core.specs.block_core.GivenSteps.{have_one_each}
use Rattle.go_report_core.specs.summary_core.Summaries.{path_of}
use Rattle.go_emit_core.specs.package_core.PackagePartInputs.{IsInput, path_in}
use Rattle.go_emit_core.specs.package_core.PackagePartParts.{PartModel}
use Rattle.go_snap_core.specs.whole_workspace.Inputs.{ComesTo, ReachesPackage}
use Rattle.go_snap_core.specs.whole_workspace.mirrors.Steps.{AreRight}
use Rattle.go_snap_core.proofs.WholeWorkspaceBeside.{one_place}
use Rattle.go_snap_core.proofs.WholeWorkspaceLists.{all_from_among}
use Rattle.go_snap_core.proofs.WholeWorkspaceOrder.{reaches_others}
use Rattle.go_snap_core.proofs.WholeWorkspaceParts.{path_told, told_by, well_reached}

module _ (ps : List PackageModel) (parts : List (Option PartModel)) (well : IsWorkspace ps) (right : AreRight ps parts) (n : ℕ) (part : PartModel) (there : slice_get parts n ≡ Some (Some part)) where
  -- no package is among those that it reaches
  others : All (λ s. path_in part.input ≡ path_of s → ⊥) part.input.reached
  others =
      let r = right n part there in
      let plan = has_plan ps well in
      all_from_among (λ s. path_in part.input ≡ path_of s → ⊥) part.input.reached
      (λ s h same. (let by = told_by ps parts well right n part.input r.input s h in
      let number : n ≡ by.number =
      one_place ps n by.number part.input.source by.tells.of_part.input.source well r.numbered (right by.number by.tells.of_part by.tells.there).numbered
      (same ∙ path_told ps parts well right by.number s by.tells) in
      reaches_others ps plan.0 plan.1 n (subst (λ k. ReachesPackage ps n k) (sym number) by.reached)))

  pub is_input : IsInput part.input
  is_input =
      let r = right n part there in
      let reached = well_reached ps parts well right n part.input r.input in
      record {
        imports = have_one_each (ComesTo ps parts) n (trees_of part.input.source.1) part.input.imports r.input.imports;
        reached = record { apart = reached.apart; others = others };
        own = reached.own;
      }
