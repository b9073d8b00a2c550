-- Packages that are the same in two workspaces, by heads and by plans.
use Rattle.std.proofs.Common.{◌≡◌, ◌<◌, ⊎_elim, ℕ, Bool, true, List, [], ◌∷◌, ◌++◌, length, get_or, Option, Some, None, refl, sym, ap, ◌∙◌, subst, arith}
use Rattle.std.specs.Prelude.{IsTrue, MatchOption, Contains, slice_get}
use Rattle.std.proofs.lemmas.Option.{slice_get_within}
use Rattle.go_digraph_core.specs.declared.cycle.edge.Edge.{Edge}
use Rattle.go_digraph_core.specs.reach.Numbers.{Numbers}
use Rattle.go_block_core.specs.graph_core.declared.imports.ImportAt.{ImportAt}
use Rattle.go_block_core.specs.graph_core.declared.imports.ImportOutcome.{ImportOutcome}
use Rattle.go_block_core.specs.graph_core.declared.imports.ImportOutcome.TheVariants.{Package}
use Rattle.go_block_core.specs.graph_core.Imports.{IsNoImport, IsOutcome}
use Rattle.go_block_core.specs.graph_core.Plans.{IsPlan, PlanModel, outcome_at}
use Rattle.go_block_core.specs.graph_core.Workspaces.{PackageModel, IsWorkspace}
use Rattle.go_block_core.specs.graph_core.OutcomeLaws.{has_one_outcome}
use Rattle.go_import_core.specs.head.Heads.{AreSameMarks, HaveSameHeads}
use Rattle.go_import_core.specs.head.Laws.{OutcomesStay}
use Rattle.go_import_core.specs.head.Rows.{HaveSameRows, row_at}
use Rattle.go_import_core.proofs.HeadMarking.{at_end}
use Rattle.go_snap_core.specs.whole_workspace.Inputs.{IsPassingImport, ReachesPackage}
use Rattle.go_batch_core.specs.Planning.{IsPlanned}
use Rattle.go_batch_core.specs.Steadiness.{AreSameAt, IsSameAt}
use Rattle.go_batch_core.specs.mirrors.Rows.{HaveSameReached, Stays}
use Rattle.go_batch_core.proofs.Reaching.{from_reached, in_reached}

-- by heads

reaches_by : (qs ps : List PackageModel) → ((e : Edge) → IsPassingImport qs e → IsPassingImport ps e) → (n m : ℕ) → ReachesPackage qs n m → ReachesPackage ps n m
reaches_by qs ps moves n m r = (r.0, (λ k d lt. moves (get_or r.0 k d) (r.1 k d lt)), r.2)

pub marks_by_heads : OutcomesStay → (qs ps : List PackageModel) (marks : List Bool) → IsWorkspace qs → IsWorkspace ps → HaveSameHeads qs ps → AreSameMarks qs ps marks → AreSameAt qs ps marks
marks_by_heads law qs ps marks before now heads same n marked =
    let forth : (e : Edge) → IsPassingImport qs e → IsPassingImport ps e = λ e passing. (passing.0, passing.1, (law qs ps before now heads passing.0 (Package e.to)).0 passing.2) in
    let back : (e : Edge) → IsPassingImport ps e → IsPassingImport qs e = λ e passing. (passing.0, passing.1, (law qs ps before now heads passing.0 (Package e.to)).1 passing.2) in
    record {
      source = (same.each n true marked).0 refl;
      outcomes = λ at o here is. (law qs ps before now heads at o).0 is;
      reaches = λ m. (reaches_by qs ps forth n m, reaches_by ps qs back n m);
    }

-- by plans

planned_outcome : (qs : List PackageModel) (plan : PlanModel) (at : ImportAt) (o : ImportOutcome) → IsWorkspace qs → IsPlan qs plan → IsOutcome qs at o → outcome_at plan.outcomes at ≡ Some o
planned_outcome qs plan at o well planned is = by (outcome_at plan.outcomes at) refl
  where
    by : (x : Option ImportOutcome) → outcome_at plan.outcomes at ≡ x → outcome_at plan.outcomes at ≡ Some o
    by None e = absurd ((subst (λ (y : Option ImportOutcome). MatchOption y (IsNoImport qs at) (IsOutcome qs at)) e (planned.outcomes at)) is.q is.text is.there)
    by (Some x) e = e ∙ ap Some (has_one_outcome qs at x o well (subst (λ (y : Option ImportOutcome). MatchOption y (IsNoImport qs at) (IsOutcome qs at)) e (planned.outcomes at)) is)

row_of : (os : List (List (List ImportOutcome))) (at : ImportAt) (n : ℕ) → at.«package» ≡ n → outcome_at os at ≡ row_at os n at.file at.import
row_of os at n here = ap (λ (k : ℕ). row_at os k at.file at.import) here

pub same_by_plans : (qs ps : List PackageModel) (old new : PlanModel) (sets others : List Numbers) (n : ℕ) (p : PackageModel) → IsPlanned qs old sets → IsPlanned ps new others → slice_get qs n ≡ Some p → slice_get ps n ≡ Some p
    → HaveSameRows old new n (length p.1) → HaveSameReached sets others n → IsSameAt qs ps n
same_by_plans qs ps old new sets others n p before now there here rows reached = record {
  source = there ∙ sym here;
  outcomes = λ at o is_here is.
      let numbered = ap (slice_get qs) (sym is_here) ∙ is.there.numbered in
      let package_is : p ≡ (is.q, is.there.files) = (let both : Some p ≡ Some (is.q, is.there.files) = sym there ∙ numbered in cc) in
      let within : at.file < length p.1 = omega (arith, slice_get_within is.there.files at.file is.there.file is.there.in_files, ap (λ (x : PackageModel). length x.1) package_is) in
      let found : outcome_at new.outcomes at ≡ Some o = row_of new.outcomes at n is_here ∙ sym (rows at.file within at.import) ∙ sym (row_of old.outcomes at n is_here) ∙ planned_outcome qs old at o before.well before.planned is in
      subst (λ (x : Option ImportOutcome). MatchOption x (IsNoImport ps at) (IsOutcome ps at)) found (now.planned.outcomes at);
  reaches = λ m. (
    (λ r. from_reached ps new others n m reached.1 now reached.3 (subst (λ (l : List ℕ). Contains l m) reached.4 (in_reached qs old sets n m reached.0 before reached.2 r))),
    (λ r. from_reached qs old sets n m reached.0 before reached.2 (subst (λ (l : List ℕ). Contains l m) (sym reached.4) (in_reached ps new others n m reached.1 now reached.3 r))),
  );
}

pub stays_same : (qs ps : List PackageModel) (old new : PlanModel) (sets others : List Numbers) (same : List Bool) (n : ℕ) → IsPlanned qs old sets → IsPlanned ps new others → AreSameMarks qs ps same → Stays old new sets others ps same n → IsSameAt qs ps n
stays_same qs ps old new sets others same n before now marks stays =
    same_by_plans qs ps old new sets others n stays.package_is before now ((marks.each n true stays.marked).0 refl ∙ stays.there) stays.there stays.rows stays.reached

-- marks of packages that stay
pub marks_push : (qs ps : List PackageModel) (marks : List Bool) (is : Bool) (k : ℕ) → length marks ≡ k → AreSameAt qs ps marks → (IsTrue is → IsSameAt qs ps k) → AreSameAt qs ps (marks ++ is ∷ [])
marks_push qs ps marks is k many all says n marked = ⊎_elim
    (λ (l : slice_get marks n ≡ Some true). all n l)
    (λ (r : (n ≡ length marks) × (is ≡ true)). subst (IsSameAt qs ps) (sym (r.0 ∙ many)) (says r.1))
    (at_end marks is n true marked)
