-- The signature of a function of a part gives the same, and takes words over the same, in each part that sees it.
use Rattle.std.proofs.Common.{◌≡◌, inl, inr, ℕ, List, refl, sym, ap, subst}
use Rattle.std.specs.Prelude.{Option, Some, None, Contains, slice_get}
use Rattle.go_term_core.specs.decl_core.declared.keys.DeclRef.{DeclRef}
use Rattle.go_graph_core.specs.Plans.{PlanModel, IsPlan}
use Rattle.go_graph_core.proofs.PlanLaws.{has_plan}
use Rattle.go_graph_core.specs.Workspaces.{IsWorkspace, PackageModel}
use Rattle.go_term_core.specs.Terms.{Sign}
use Rattle.go_body_core.specs.typexpr_core.EntryAmong.{Among, among_from}
use Rattle.go_emit_core.specs.declared_core.declared.face.Face.TheVariants as faces
use Rattle.go_emit_core.specs.declared_core.Faces.{TheFace}
use Rattle.go_emit_core.specs.declared_core.Written.{position_of}
use Rattle.go_body_core.specs.env_core.Found.{face_at}
use Rattle.go_report_core.specs.summary_core.Summaries.{SummaryModel, path_of}
use Rattle.go_emit_core.specs.package_core.PreparePackages.{scene_in}
use Rattle.go_emit_core.specs.package_core.PackagePartInputs.{path_in}
use Rattle.go_emit_core.specs.package_core.PackagePartParts.{PartModel, package_seen, seen_by}
use Rattle.go_emit_core.specs.package_core.PackagePartSlots.{somes}
use Rattle.go_snap_core.specs.whole_workspace.Inputs.{ReachesPackage, Tells}
use Rattle.go_snap_core.specs.whole_workspace.LocalLaws.{CheckIsLocal, ImportsBindTheirs}
use Rattle.go_snap_core.specs.whole_workspace.mirrors.Steps.{AreRight}
use Rattle.go_snap_core.proofs.WholeWorkspaceParts.{reach_paths, told_apart, told_by}
use Rattle.go_snap_core.proofs.WholeWorkspacePartsWhole.{all_right}
use Rattle.go_workspace_laws.proofs.Meanings.{IsAnyIn}
use Rattle.go_workspace_laws.proofs.Parts.{IsPartIn, all_in}
use Rattle.go_workspace_laws.proofs.Terms.{IsSignIn}
use Rattle.go_program_laws.specs.types.Functions.{known_types}
use Rattle.go_program_laws.proofs.FaultlessAlike.{numbered_in}
use Rattle.go_program_laws.proofs.FaultlessScenes.{sign_same}
use Rattle.go_program_laws.proofs.FaultlessShows.{alike}
use Rattle.go_program_laws.specs.references.Callers.{IsOwnFunction}
use Rattle.go_program_laws.specs.references.Reached.{SeesPart}
use Rattle.go_program_laws.specs.references.Shown.{IsSignAlike, SignaturesAreAlike}
use Rattle.go_program_laws.proofs.ReferencesMoves.{params_same}

-- what a package knows of a function mentions types of those that it reaches, and its own
own_in : (q : PartModel) → IsPartIn q → (d : DeclRef) (s : Sign) → IsOwnFunction q.input q.content d s → IsSignIn (Contains (reach_paths q.input)) s
own_in q inside d s own = by (position_of (scene_in (package_seen q.input q.content.blocks (seen_by q.input)) (known_types q.input q.content)).written d) own
  where
    by : (o : Option ℕ) → face_at q.content.declared o ≡ Some (faces.Func s) → IsSignIn (Contains (reach_paths q.input)) s
    by None e = absurd (let no : None ≡ Some (faces.Func s) = e in cc)
    by (Some n) e = subst (λ (o : Option TheFace). IsAnyIn (Contains (reach_paths q.input)) o) e (inside.declared n)

module _ (local : CheckIsLocal) (bind : ImportsBindTheirs) (ws : List PackageModel) (parts : List (Option PartModel)) (well : IsWorkspace ws) (right : AreRight ws parts) (plan : PlanModel) (planned : IsPlan ws plan) where
  module _ (n : ℕ) (part : PartModel) (there : slice_get parts n ≡ Some (Some part)) (m : ℕ) (q : PartModel) (at : slice_get parts m ≡ Some (Some q)) (reached : ReachesPackage ws n m) (among : Among part.input.reached q.content.summary) where
    sign_alike : (d : DeclRef) (s : Sign) → IsOwnFunction q.input q.content d s → IsSignAlike part q s
    sign_alike d s own =
        let types = (alike local bind ws parts well right plan planned n part there m q at reached among).types in
        let inside = own_in q (all_in ws parts well right local bind plan planned m q at) d s own in
        record {
          gives = sign_same (Contains (reach_paths q.input)) (known_types q.input q.content) (known_types part.input part.content) types s inside;
          takes = λ words l u more k t all h.
              params_same (Contains (reach_paths q.input)) (known_types q.input q.content) (known_types part.input part.content) types (path_in q.input) (path_in part.input) words s inside h;
        }

  -- a part that another reaches
  alike_reached : (n : ℕ) (p : PartModel) → slice_get parts n ≡ Some (Some p) → (m : ℕ) (q : PartModel) → slice_get parts m ≡ Some (Some q) → Contains p.input.reached q.content.summary
      → ((l : ℕ) (s : SummaryModel) (t : Tells parts l s) → s ≡ q.content.summary → l ≡ m) → (d : DeclRef) (s : Sign) → IsOwnFunction q.input q.content d s → IsSignAlike p q s
  alike_reached n p there m q at reached one d s own =
      let among = among_from p.input.reached q.content.summary reached in
      let by = told_by ws parts well right n p.input (right n p there).input q.content.summary among in
      let number = one by.number q.content.summary by.tells refl in
      sign_alike n p there m q at (subst (λ l. ReachesPackage ws n l) number by.reached) among d s own

alike_itself : (p q : PartModel) (s : Sign) → q ≡ p → IsSignAlike p q s
alike_itself p q s e = subst (λ (x : PartModel). IsSignAlike p x s) (sym e) (record { gives = refl; takes = λ words l u more k t all h. h })

pub signs_alike : CheckIsLocal → ImportsBindTheirs → SignaturesAreAlike
signs_alike local bind ws parts well made p q hp hq sees d s own = by sees
  where
    by : SeesPart p q → IsSignAlike p q s
    by (inl e) = alike_itself p q s e
    by (inr reached) =
        let a = numbered_in parts p (among_from (somes parts) p hp) in
        let b = numbered_in parts q (among_from (somes parts) q hq) in
        let right = all_right ws parts made in
        let plan = has_plan ws well in
        alike_reached local bind ws parts well right plan.0 plan.1 a.number p a.there b.number q b.there reached
        (λ l t tells e. told_apart ws parts well right l b.number t q.content.summary tells (record { of_part = q; there = b.there; is = refl }) (ap path_of e)) d s own
