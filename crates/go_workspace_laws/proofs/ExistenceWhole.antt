-- A workspace has parts, and a snapshot.
use Rattle.std.proofs.Common.{◌≡◌, ℕ, zero, suc, ◌+◌, ◌<◌, ◌≤◌, List, [], ◌∷◌, ◌++◌, length, take, Option, Some, None, refl, subst, arith}
use Rattle.std.specs.Prelude.{replicate, slice_index, slice_set}
use Rattle.std.proofs.lemmas.List.{take_all}
use Rattle.std.proofs.lemmas.Option.{slice_get_within}
use Rattle.go_tree_nodes.specs.Trees.{FileTree}
use Rattle.go_graph_core.specs.declared.imports.ImportAt.{ImportAt}
use Rattle.go_graph_core.specs.declared.imports.ImportOutcome.{ImportOutcome}
use Rattle.go_graph_core.specs.declared.imports.ImportOutcome.TheVariants as outcomes
use Rattle.go_graph_core.specs.Packages.{Trees, trees_of}
use Rattle.go_graph_core.specs.Plans.{IsPlan, PlanModel}
use Rattle.go_graph_core.specs.Workspaces.{IsWorkspace, PackageModel}
use Rattle.go_graph_core.proofs.PlanLaws.{has_plan}
use Rattle.go_names_core.specs.block_core.declared.imports.Imported.{Imported}
use Rattle.go_names_core.specs.block_core.declared.imports.Imported.TheVariants as given
use Rattle.go_names_core.specs.block_core.Exports.{ExportsModel}
use Rattle.go_names_core.specs.block_core.Naming.{AreInFile, AreInPackage, IsGiven, file_specs, import_at}
use Rattle.go_names_core.specs.block_core.mirrors.Steps.{AreReady, AreReadyIn, HasExports, IsPlanned, IsReady, IsShownIn}
use Rattle.go_report_core.specs.summary_core.Summaries.{SummaryModel}
use Rattle.go_report_core.specs.summary_core.Views.{exports_told, faces_told, types_told}
use Rattle.go_emit_core.specs.package_core.PrepareLaws.{ValuesAreAsWritten}
use Rattle.go_emit_core.specs.package_core.PackagePartInputs.{InputModel}
use Rattle.go_emit_core.specs.package_core.PackagePartParts.{PartModel}
use Rattle.go_snap_core.specs.whole_workspace.Inputs.{AreParts, AreToldTo, HasReached, Tells}
use Rattle.go_snap_core.specs.whole_workspace.LocalLaws.{CheckIsLocal, ImportsBindTheirs}
use Rattle.go_snap_core.specs.whole_workspace.mirrors.Steps.{AreMade, IsNext, IsRight, exports_in}
use Rattle.go_snap_core.proofs.WholeWorkspaceChecks.{trees_are_placed}
use Rattle.go_snap_core.proofs.WholeWorkspaceInputting.{package_comes, package_ready}
use Rattle.go_snap_core.proofs.WholeWorkspaceMaking.{all_made, none_made, one_more}
use Rattle.go_snap_core.proofs.WholeWorkspaceNext.{next_assembled, next_reached}
use Rattle.go_snap_core.proofs.WholeWorkspacePartsWhole.{parts_are_whole}
use Rattle.go_snap_core.specs.Snapshots.{contents_of}
use Rattle.go_workspace_laws.specs.existence.Laws.{WorkspacesHaveParts, WorkspacesHaveSnapshots}
use Rattle.go_workspace_laws.proofs.ExistenceFaults.{all_faults}
use Rattle.go_workspace_laws.proofs.ExistenceParts.{inputs_have_parts}
use Rattle.go_workspace_laws.proofs.ExistenceReached.{numbers, numbers_are, numbers_rise}
use Rattle.go_workspace_laws.proofs.ExistenceTables.{partners, zipped_in}

-- what the imports of a package come to

given_of : (es : List (Option ExportsModel)) (o : ImportOutcome) → HasExports es o → (i : Imported) × IsGiven (IsShownIn es) o i
given_of es (outcomes.«Package» number) h = (given.«Package» h.0, h.1)
given_of es (outcomes.Refused rule) h = (given.Refused rule, refl)

module _ (planned : List (List (List ImportOutcome))) (es : List (Option ExportsModel)) where
  planned_of : (at : ImportAt) → IsReady planned es at → (i : Imported) × IsPlanned planned es at i
  planned_of at h = (let i = given_of es h.outcome h.there in (i.0, record { outcome = h.outcome; is = h.is; given = i.1 }))

  in_file : (number file : ℕ) (f : FileTree) → AreReadyIn planned es number file f → (is : List Imported) × AreInFile (IsPlanned planned es) number file f is
  in_file number file f ready =
      partners (λ n spec i. IsPlanned planned es (import_at number file n) i) 0 (file_specs f)
      (λ n spec at.
      let same : n ≡ 0 + n = omega arith in
      let i = planned_of (import_at number file n) (ready n (slice_get_within (file_specs f) n spec at)) in
      (i.0, subst (λ m. IsPlanned planned es (import_at number file m) i.0) same i.1))

  in_package : (number : ℕ) (ts : Trees) → AreReady planned es number ts → (files : List (List Imported)) × AreInPackage (IsPlanned planned es) number ts files
  in_package number ts ready =
      partners (λ file t is. AreInFile (IsPlanned planned es) number file t.1 is) 0 ts
      (λ file t at.
      let same : file ≡ 0 + file = omega arith in
      let is = in_file number file t.1 (ready file t at) in
      (is.0, subst (λ m. AreInFile (IsPlanned planned es) number m t.1 is.0) same is.1))

-- parts, in the order of a plan

module _ (written : ValuesAreAsWritten) (ps : List PackageModel) (well : IsWorkspace ps) (plan : PlanModel) (planned : IsPlan ps plan) where
  -- what the packages that one reaches tell
  told_to : (parts : List (Option PartModel)) (n : ℕ) → HasReached ps parts n → (ss : List SummaryModel) × AreToldTo ps parts n ss
  told_to parts n has =
      let told = zipped_in (Tells parts) (numbers ps plan planned n) (λ m at. has.told m ((numbers_are ps plan planned n m).0 at)) in
      (told.0, record { numbers = numbers ps plan planned n; rising = numbers_rise ps plan planned n; reached = numbers_are ps plan planned n; told = told.1 })

  module _ (k : ℕ) (lt : k < length plan.order) (parts : List (Option PartModel)) (ss : List SummaryModel) (before : AreMade ps (take k plan.order) parts ss) where
    abbrev n : ℕ
    n = slice_index plan.order k

    next : IsNext ps plan parts n (types_told ss) (exports_told ss) (faces_told ss)
    next = record { place = k; within = lt; is = refl; before = record { summaries = ss; made = before; seen = record { types_are = refl; shown_are = refl; faces_are = refl } } }

    made_at : (part : PartModel) × IsRight ps parts n part
    made_at =
        let has : HasReached ps parts n = next_reached ps plan well planned parts n (types_told ss) (exports_told ss) (faces_told ss) next in
        let named = next_assembled ps plan well planned parts n (types_told ss) (exports_told ss) (faces_told ss) next in
        let p : PackageModel = (named.0, named.1) in
        let imported = in_package plan.outcomes (exports_in parts) n (trees_of p.1) (package_ready ps plan planned parts n has p named.2 named.3) in
        let told = told_to parts n has in
        let i : InputModel = record { source = p; imports = imported.0; reached = told.0 } in
        let c = inputs_have_parts written i (trees_are_placed ps n p well named.2) in (
          record { input = i; content = c.0 },
          record {
            numbered = named.2;
            assembled = named.3;
            input = record { source = refl; imports = package_comes ps plan planned parts n has p imported.0 imported.1; reached = told.1 };
            made = c.1;
          },
        )

    pub more_made : (more : List (Option PartModel)) × (all : List SummaryModel) × AreMade ps (take (k + 1) plan.order) more all
    more_made =
        let part : PartModel = made_at.0 in
        let right : IsRight ps parts n part = made_at.1 in
        (slice_set parts n (Some part), ss ++ part.content.summary ∷ [], one_more ps plan k planned lt parts ss before n refl part right.numbered right.assembled right.input right.made)

  made_so_far : (k : ℕ) → k ≤ length plan.order → (parts : List (Option PartModel)) × (ss : List SummaryModel) × AreMade ps (take k plan.order) parts ss
  made_so_far zero le = (let parts : List (Option PartModel) = replicate (length ps) None in (parts, [], none_made ps parts refl))
  made_so_far (suc k) le =
      let old = made_so_far k (omega (arith, le)) in
      let new = more_made k (omega (arith, le)) old.0 old.1 old.2 in
      let more : k + 1 ≡ suc k = omega arith in
      (new.0, new.1, subst (λ m. AreMade ps (take m plan.order) new.0 new.1) more new.2)

  parts_of : (parts : List (Option PartModel)) × AreParts ps parts
  parts_of =
      let all = made_so_far (length plan.order) (omega arith) in
      (all.0, all_made ps plan all.0 all.1 planned (subst (λ l. AreMade ps l all.0 all.1) (take_all (length plan.order) plan.order (omega arith)) all.2))

pub workspaces_have_parts : ValuesAreAsWritten → WorkspacesHaveParts
workspaces_have_parts written ps well = (let plan = has_plan ps well in parts_of written ps well plan.0 plan.1)

-- and a snapshot

pub workspaces_have_snapshots : ValuesAreAsWritten → CheckIsLocal → ImportsBindTheirs → WorkspacesHaveSnapshots
workspaces_have_snapshots written local bind ps well =
    let parts = workspaces_have_parts written ps well in
    let whole = parts_are_whole local bind ps parts.0 well parts.1 in
    let faults = all_faults ps (contents_of parts.0) well in
    (parts.0, faults.0, record { made = parts.1; whole = whole.0; is_whole = whole.1; parts_are = whole.2; faults_are = faults.1 })
