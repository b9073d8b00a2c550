-- The inputs of the packages of a workspace lead to no package beside those that they reach, and so packages stay.
use Rattle.std.proofs.Common.{◌≡◌, ℕ, ◌⊎◌, inl, inr, List, Option, Some, refl, sym, ap, subst, ◌∙◌}
use Rattle.std.specs.Prelude.{Contains, slice_get}
use Rattle.go_graph_core.specs.Packages.{trees_of}
use Rattle.go_graph_core.specs.Plans.{IsPlan, PlanModel}
use Rattle.go_graph_core.specs.Workspaces.{PackageModel, IsWorkspace}
use Rattle.go_graph_core.proofs.PlanLaws.{has_plan}
use Rattle.go_names_core.specs.block_core.Exports.{ExportsModel}
use Rattle.go_body_core.specs.typexpr_core.EntryAmong.{Among, among_from, among_map, among_to, map_among}
use Rattle.go_report_core.specs.summary_core.Summaries.{SummaryModel, path_of}
use Rattle.go_emit_core.specs.package_core.PackagePartInputs.{InputModel}
use Rattle.go_emit_core.specs.package_core.PackagePartParts.{PartModel}
use Rattle.go_snap_core.specs.whole_workspace.Inputs.{ComesTo, IsInputOf, ReachesPackage, Shown, Tells}
use Rattle.go_snap_core.specs.whole_workspace.LocalLaws.{CheckIsLocal, ImportsBindTheirs}
use Rattle.go_snap_core.specs.whole_workspace.mirrors.Steps.{AreRight}
use Rattle.go_snap_core.proofs.WholeWorkspaceChecks.{trees_are_placed}
use Rattle.go_snap_core.proofs.WholeWorkspaceLists.{zip_of}
use Rattle.go_snap_core.proofs.WholeWorkspaceOrder.{reaches_next, reaches_on}
use Rattle.go_snap_core.proofs.WholeWorkspaceParts.{IsToldBy, StaysInside, all_inside, none_reached, path_told, reach_paths, told_by, told_to, well_reached}
use Rattle.go_snap_core.proofs.WholeWorkspacePartsWhole.{all_right}
use Rattle.go_snap_core.proofs.WholeWorkspaceTheirs.{Leads, imports_lead, passes}
use Rattle.go_snap_core.proofs.WholeWorkspaceTold.{IsTold, IsToldOf, NoneIsOf, mentions, told_wider}
use Rattle.go_locality_laws.specs.Alike.{LeadsInside, paths_in}
use Rattle.go_locality_laws.specs.ImportLaws.{ImportsDecideParts, InputsLeadInside, PartsStay}

module _ (ps : List PackageModel) (parts : List (Option PartModel)) (well : IsWorkspace ps) (right : AreRight ps parts) (n : ℕ) (i : InputModel) (input : IsInputOf ps parts n i.source i) where
  in_paths : (s : SummaryModel) → Among i.reached s → Contains (paths_in i) (path_of s)
  in_paths s h = among_to (paths_in i) (path_of s) (inr (map_among path_of i.reached (path_of s) s h refl))

  -- its imports come to what it reaches
  imports_inside : (path : List ℕ) → Leads (ComesTo ps parts) n path → Contains (paths_in i) path
  imports_inside path l =
      let p = passes (Shown parts) ps l.at l.come.outcome l.shown l.come.judged l.come.given in
      let reached = subst (λ k. ReachesPackage ps k p.to) l.from (reaches_next ps l.at p.to p.judged) in
      let s = p.shows.summary in
      let there : path_of s ≡ path = sym (ap (λ (e : ExportsModel). e.path) p.shows.is) ∙ sym l.is in
      subst (Contains (paths_in i)) there (in_paths s (told_to ps parts well right n i input p.to s reached p.shows.told))

  -- what a package tells that it reaches mentions types of the packages that it reaches
  module _ (stays : (m : ℕ) (part : PartModel) → slice_get parts m ≡ Some (Some part) → StaysInside part) (s : SummaryModel) (h : Among i.reached s) where
    by : IsToldBy ps parts well right n i input s
    by = told_by ps parts well right n i input s h

    abbrev part : PartModel
    part = by.tells.of_part

    widen : (path : List ℕ) → Among (reach_paths part.input) path → Contains (paths_in i) path
    widen path (inl e) = subst (Contains (paths_in i)) (path_told ps parts well right by.number s by.tells ∙ e) (in_paths s h)
    widen path (inr a) =
        let r = right by.number part by.tells.there in
        let t = among_map path_of part.input.reached path a in
        let deeper = zip_of (Tells parts) r.input.reached.numbers part.input.reached t.0 r.input.reached.told t.1 in
        let reached = (r.input.reached.reached deeper.0).0 (among_to r.input.reached.numbers deeper.0 deeper.1) in
        subst (Contains (paths_in i)) t.2 (in_paths t.0 (told_to ps parts well right n i input deeper.0 t.0 (reaches_on ps n by.number deeper.0 by.reached reached) deeper.2))

    told_inside : IsTold (Contains (paths_in i)) s
    told_inside =
        subst (IsTold (Contains (paths_in i))) (sym by.tells.is)
        (told_wider (Contains (reach_paths part.input)) (Contains (paths_in i)) (λ path c. widen path (among_from (reach_paths part.input) path c)) part.content.summary (stays by.number part by.tells.there))

  module _ (local : CheckIsLocal) (bind : ImportsBindTheirs) (plan : PlanModel) (planned : IsPlan ps plan) (numbered : slice_get ps n ≡ Some i.source) where
    stays : (m : ℕ) (part : PartModel) → slice_get parts m ≡ Some (Some part) → StaysInside part
    stays m part at = all_inside ps parts well right local bind plan planned m part at

    told_of : (path : List ℕ) → Among (paths_in i) path → IsToldOf (Contains (paths_in i)) i.reached path ⊎ NoneIsOf i.reached path
    told_of path (inl e) = inr (subst (NoneIsOf i.reached) e (none_reached ps parts well right n i input bind plan planned numbered (λ m part reached at. stays m part at)))
    told_of path (inr a) = (let t = among_map path_of i.reached path a in inl (record { summary = t.0; there = among_to i.reached t.0 t.1; is = t.2; inside = told_inside stays t.0 t.1 }))

    pub leads_inside : LeadsInside i
    leads_inside = record {
      placed = trees_are_placed ps n i.source well numbered;
      imports = λ path h. imports_inside path (imports_lead (ComesTo ps parts) n (trees_of i.source.1) i.imports path input.imports h);
      mentions = mentions (Contains (paths_in i)) i.reached (well_reached ps parts well right n i input) (λ path h. told_of path (among_from (paths_in i) path h));
    }

pub inputs_lead : CheckIsLocal → ImportsBindTheirs → InputsLeadInside
inputs_lead local bind = λ ps parts plan well planned right n i at. leads_inside ps parts well right n i at.input local bind plan planned at.numbered

pub parts_stay : ImportsDecideParts → InputsLeadInside → PartsStay
parts_stay decide lead = λ ps parts well all n part other there own input over.
    let right = all_right ps parts all in
    let r = right n part there in
    let plan = has_plan ps well in
    decide part.input other part.content own input (lead ps parts plan.0 well plan.1 right n part.input (record { numbered = r.numbered; input = r.input })) over r.made
