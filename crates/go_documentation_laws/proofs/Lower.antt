-- The package to which an added import comes, and what that reaches, have the parts that they had.
use Rattle.std.proofs.Common.{◌≡◌, ℕ, inl, inr, ◌++◌, ◌∷◌, [], List, Option, Some, None, sym, subst, ◌∙◌, arith, ◌+◌}
use Rattle.std.specs.Prelude.{slice_get}
use Rattle.go_digraph_core.specs.declared.cycle.edge.Edge.{Edge}
use Rattle.go_graph_core.specs.declared.imports.ImportOutcome.TheVariants.{Package}
use Rattle.go_graph_core.specs.Imports.{IsFound}
use Rattle.go_graph_core.specs.Packages.{IsAssembled}
use Rattle.go_graph_core.specs.Plans.{IsAssembledAt, IsPlan, PlanModel}
use Rattle.go_graph_core.specs.Workspaces.{IsWorkspace, PackageModel}
use Rattle.go_graph_core.proofs.PlanLaws.{has_plan}
use Rattle.go_graph_core.proofs.Zips.{numbered_at}
use Rattle.go_import_core.specs.list.Added.{AddsImport}
use Rattle.go_import_core.specs.list.Importing.{IsJudgedAt}
use Rattle.go_package_core.specs.package_part.Laws.{OnePart}
use Rattle.go_package_core.specs.package_part.Parts.{PartModel}
use Rattle.go_snap_core.specs.whole_workspace.Inputs.{AreParts, IsPartOf, IsPassingImport, ReachesPackage}
use Rattle.go_snap_core.proofs.WholeWorkspaceOrder.{reached_before, reaches_next, reaches_on}
use Rattle.go_completion_laws.proofs.Parted.{closed_agree}
use Rattle.go_documentation_laws.specs.Below.{IsBelow, PartsBelowStay}
use Rattle.go_documentation_laws.proofs.Outcomes.{assembled_more, below_apart, outcomes_below}

-- passing imports lead from what is below to what is below
pub closed : (ps : List PackageModel) (to : ℕ) (e : Edge) → IsBelow ps to e.from → IsPassingImport ps e → IsBelow ps to e.to
closed ps to e (inl same) p = inr (subst (λ (k : ℕ). ReachesPackage ps k e.to) (p.1 ∙ same) (reaches_next ps p.0 e.to p.2))
closed ps to e (inr r) p = inr (reaches_on ps to e.from e.to r (subst (λ (k : ℕ). ReachesPackage ps k e.to) p.1 (reaches_next ps p.0 e.to p.2)))

module _ (ps more : List PackageModel) (own to : ℕ) (text : List ℕ) (h : AddsImport ps own text more) (judged : IsJudgedAt ps own text (Package to)) where
  pub target : IsFound ps judged.path text to
  target = judged.judged.0

  below_assembled : (plan : PlanModel) → IsPlan ps plan → (m : ℕ) → IsBelow ps to m → IsAssembledAt ps m
  below_assembled plan planned m (inl same) = subst (IsAssembledAt ps) (sym same) (text, target.files, target.numbered, target.library.0)
  below_assembled plan planned m (inr r) = (reached_before ps plan planned to m r).0

  pub stays_below : OnePart → (parts others : List (Option PartModel)) → IsWorkspace ps → IsWorkspace more → AreParts ps parts → AreParts more others → (m : ℕ) → IsBelow ps to m → slice_get parts m ≡ slice_get others m
  stays_below one_part parts others well also made again m below =
      let plan = has_plan ps well in
      closed_agree one_part ps more parts others (IsBelow ps to) well also made again (closed ps to) (outcomes_below ps more own to text h judged)
      (λ k at. sym (h.others k (below_apart ps more own text h to judged k at))) m (below_assembled plan.0 plan.1 m below) below

pub parts_below : OnePart → PartsBelowStay
parts_below one_part ps more parts others own to text well also h judged made again m below = stays_below ps more own to text h judged one_part parts others well also made again m below

-- the package with the file has a part

pub record HasPart (others : List (Option PartModel)) (own : ℕ) : Type 0 where
  pub part : PartModel
  pub there : slice_get others own ≡ Some (Some part)

by_entry : (more : List PackageModel) (others : List (Option PartModel)) (own : ℕ) (p : PackageModel) (x : Option PartModel) → IsAssembled p.1 → slice_get others own ≡ Some x → IsPartOf more others own p x → HasPart others own
by_entry more others own p None joined at none = absurd (none joined)
by_entry more others own p (Some part) joined at is = record { part = part; there = at }

pub has_part : (ps more : List PackageModel) (own : ℕ) (text : List ℕ) (h : AddsImport ps own text more) (others : List (Option PartModel)) → AreParts more others → HasPart others own
has_part ps more own text h others again =
    let p : PackageModel = (h.path, h.files ++ h.file ∷ []) in
    let b = numbered_at (λ k q x. IsPartOf more others k q x) 0 more others own p again h.here in
    let e : 0 + own ≡ own = omega arith in
    by_entry more others own p b.0 (assembled_more ps more own text h) b.1 (subst (λ (k : ℕ). IsPartOf more others k p b.0) e b.2)
