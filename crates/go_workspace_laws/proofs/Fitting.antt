-- The parts of a workspace are made from inputs whose imports are of other packages.
use Rattle.std.proofs.Common.{◌≡◌, inl, inr, ℕ, List, All, Contains, Option, Some, sym, ap, subst, ◌∙◌}
use Rattle.std.specs.Prelude.{slice_get}
use Rattle.std.specs.List.{flat_map}
use Rattle.go_graph_core.specs.Packages.{trees_of}
use Rattle.go_graph_core.specs.Workspaces.{PackageModel, IsWorkspace}
use Rattle.go_graph_core.proofs.PlanLaws.{has_plan}
use Rattle.go_names_core.specs.block_core.declared.imports.Imported.{Imported}
use Rattle.go_names_core.specs.block_core.declared.imports.Imported.TheVariants as imported
use Rattle.go_names_core.specs.block_core.Exports.{ExportsModel}
use Rattle.go_names_core.specs.block_core.GivenSteps.{have_one_each}
use Rattle.go_body_core.specs.typexpr_core.EntryAmong.{among_to}
use Rattle.go_report_core.specs.summary_core.Summaries.{SummaryModel, path_of}
use Rattle.go_snap_core.specs.whole_workspace.Known.{IsImportedPath}
use Rattle.go_emit_core.specs.package_core.PackagePartInputs.{IsInput, path_in}
use Rattle.go_emit_core.specs.package_core.PackagePartParts.{PartModel}
use Rattle.go_snap_core.specs.whole_workspace.Inputs.{ComesTo, ReachesPackage, Shown}
use Rattle.go_snap_core.specs.whole_workspace.mirrors.Steps.{AreRight}
use Rattle.go_snap_core.proofs.WholeWorkspaceBeside.{one_place}
use Rattle.go_snap_core.proofs.WholeWorkspaceLists.{all_from_among}
use Rattle.go_snap_core.proofs.WholeWorkspaceOrder.{reaches_next, reaches_others}
use Rattle.go_snap_core.proofs.WholeWorkspaceParts.{path_told, told_by, told_to, well_reached}
use Rattle.go_snap_core.proofs.WholeWorkspacePartsWhole.{all_right}
use Rattle.go_snap_core.proofs.WholeWorkspaceTheirs.{imports_lead, passes}
use Rattle.go_emit_core.specs.Imports.{all_passing, imported_paths}
use Rattle.go_workspace_laws.specs.ConstantLaws.{ImportsAreOthers, PartsAreFit}
use Rattle.go_workspace_laws.proofs.ConstantLists.{HasItem, contained, from_flat, has, has_of_all}

-- an import that comes to a package, among all that do
passed : (of_file : List Imported) (e : Imported) (path : List ℕ) → HasItem of_file e → HasItem (imported_paths e) path → (shown : ExportsModel) × Contains of_file (imported.«Package» shown) × (path ≡ shown.path)
passed of_file (imported.«Package» shown) path there (inl e) = (shown, contained of_file (imported.«Package» shown) there, sym e)
passed of_file (imported.«Package» shown) path there (inr h) = absurd h
passed of_file (imported.Refused rule) path there h = absurd h

is_imported : (files : List (List Imported)) (path : List ℕ) → Contains (all_passing files) path → IsImportedPath files path
is_imported files path h =
    let file = from_flat (λ is. flat_map imported_paths is) files path (has (all_passing files) path h) in
    let one = from_flat imported_paths file.item path file.here in
    let p = passed file.item one.item path one.there one.here in
    record { of_file = file.item; file = contained files file.item file.there; shown = p.0; there = p.1; is = p.2 }

module _ (ps : List PackageModel) (parts : List (Option PartModel)) (well : IsWorkspace ps) (right : AreRight ps parts) (n : ℕ) (part : PartModel) (there : slice_get parts n ≡ Some (Some part)) where
  -- no package is among those that it reaches
  elsewhere : All (λ s. path_in part.input ≡ path_of s → ⊥) part.input.reached
  elsewhere =
      let r = right n part there in
      let plan = has_plan ps well in
      all_from_among (λ s. path_in part.input ≡ path_of s → ⊥) part.input.reached
      (λ s h same. (let by = told_by ps parts well right n part.input r.input s h in
      let number : n ≡ by.number =
      one_place ps n by.number part.input.source by.tells.of_part.input.source well r.numbered (right by.number by.tells.of_part by.tells.there).numbered
      (same ∙ path_told ps parts well right by.number s by.tells) in
      reaches_others ps plan.0 plan.1 n (subst (λ k. ReachesPackage ps n k) (sym number) by.reached)))

  is_input : IsInput part.input
  is_input =
      let r = right n part there in
      let reached = well_reached ps parts well right n part.input r.input in
      record {
        imports = have_one_each (ComesTo ps parts) n (trees_of part.input.source.1) part.input.imports r.input.imports;
        reached = record { apart = reached.apart; others = elsewhere };
        own = reached.own;
      }

  -- what an import comes to is reached
  imports_others : ImportsAreOthers part.input
  imports_others h =
      let r = right n part there in
      let l = imports_lead (ComesTo ps parts) n (trees_of part.input.source.1) part.input.imports (path_in part.input) r.input.imports (is_imported part.input.imports (path_in part.input) h) in
      let p = passes (Shown parts) ps l.at l.come.outcome l.shown l.come.judged l.come.given in
      let reached = subst (λ k. ReachesPackage ps k p.to) l.from (reaches_next ps l.at p.to p.judged) in
      let s = p.shows.summary in
      let at : path_in part.input ≡ path_of s = l.is ∙ ap (λ (e : ExportsModel). e.path) p.shows.is in
      let told = told_to ps parts well right n part.input r.input p.to s reached p.shows.told in
      has_of_all (λ (x : SummaryModel). path_in part.input ≡ path_of x → ⊥) part.input.reached s elsewhere (has part.input.reached s (among_to part.input.reached s told)) at

pub parts_fit : PartsAreFit
parts_fit ps parts well all n p there =
    let right = all_right ps parts all in
    record { input = is_input ps parts well right n p there; others = imports_others ps parts well right n p there; part = (right n p there).made }
