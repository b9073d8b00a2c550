-- What imports lead to, by a plan and by the packages.
use Rattle.std.proofs.Common.{◌≡◌, ◌<◌, ℕ, List, length, Option, Some, None, refl, ap, ◌∙◌, subst}
use Rattle.std.specs.Prelude.{MatchOption}
use Rattle.std.proofs.lemmas.Option.{slice_get_within}
use Rattle.go_digraph_core.specs.declared.cycle.edge.Edge.{Edge}
use Rattle.go_block_core.specs.graph_core.declared.imports.ImportAt.{ImportAt}
use Rattle.go_block_core.specs.graph_core.declared.imports.ImportOutcome.{ImportOutcome}
use Rattle.go_block_core.specs.graph_core.declared.imports.ImportOutcome.TheVariants.{Package}
use Rattle.go_block_core.specs.graph_core.Imports.{IsNoImport, IsOutcome}
use Rattle.go_block_core.specs.graph_core.Plans.{IsAssembledAt, IsPlan, PlanModel, outcome_at}
use Rattle.go_block_core.specs.graph_core.Plans as plans
use Rattle.go_block_core.specs.graph_core.Workspaces.{PackageModel, IsWorkspace}
use Rattle.go_block_core.specs.graph_core.OutcomeLaws.{has_one_outcome}
use Rattle.go_snap_core.specs.whole_workspace.Inputs.{IsPassingImport}

pub passing_to : (ps : List PackageModel) (plan : PlanModel) (e : Edge) → IsPlan ps plan → plans.IsPassing plan e → IsPassingImport ps e
passing_to ps plan e planned passing =
    let at = passing.0 in
    (at, passing.1, subst (λ (o : Option ImportOutcome). MatchOption o (IsNoImport ps at) (IsOutcome ps at)) passing.2 (planned.outcomes at))

-- what an import comes to is what the plan has of it
pub planned_at : (ps : List PackageModel) (plan : PlanModel) (at : ImportAt) (m : ℕ) → IsWorkspace ps → IsPlan ps plan → IsOutcome ps at (Package m) → outcome_at plan.outcomes at ≡ Some (Package m)
planned_at ps plan at m well planned outcome = by (outcome_at plan.outcomes at) refl
  where
    by : (o : Option ImportOutcome) → outcome_at plan.outcomes at ≡ o → outcome_at plan.outcomes at ≡ Some (Package m)
    by None is = absurd ((subst (λ (x : Option ImportOutcome). MatchOption x (IsNoImport ps at) (IsOutcome ps at)) is (planned.outcomes at)) outcome.q outcome.text outcome.there)
    by (Some o) is = is ∙ ap Some (has_one_outcome ps at o (Package m) well (subst (λ (x : Option ImportOutcome). MatchOption x (IsNoImport ps at) (IsOutcome ps at)) is (planned.outcomes at)) outcome)

pub passing_from : (ps : List PackageModel) (plan : PlanModel) (e : Edge) → IsWorkspace ps → IsPlan ps plan → IsPassingImport ps e → plans.IsPassing plan e
passing_from ps plan e well planned passing = (passing.0, passing.1, planned_at ps plan passing.0 e.to well planned passing.2)

pub passing_target : (ps : List PackageModel) (e : Edge) → IsPassingImport ps e → IsAssembledAt ps e.to
passing_target ps e passing = (let found = passing.2.judged.0 in (passing.2.text, found.files, found.numbered, found.library.0))

pub target_within : (ps : List PackageModel) (e : Edge) → IsPassingImport ps e → e.to < length ps
target_within ps e passing = (let there = passing_target ps e passing in slice_get_within ps e.to (there.0, there.1) there.2)
