use Rattle.std.proofs.Common.{◌≡◌, ℕ, List, Some, length, sym, ap, ◌∙◌, subst}
use Rattle.std.specs.Prelude.{slice_get}
use Rattle.go_block_core.specs.graph_core.Imports.{IsOutcome}
use Rattle.go_block_core.specs.graph_core.Plans.{PlanModel}
use Rattle.go_block_core.specs.graph_core.Workspaces.{PackageModel}
use Rattle.go_block_core.specs.graph_core.declared.imports.ImportOutcome.TheVariants.{Package}
use Rattle.go_batch_core.specs.Batches.{BatchModel}
use Rattle.go_batch_core.specs.mirrors.Rows.{AreRowsClear}
use Rattle.go_batch_core.proofs.Importing.{imports_clear}
use Rattle.go_batch_core.proofs.batch.Batch.imports_marked.Goals as goal

pub returns : goal.returns
returns c said at m here outcome marked =
    let i = c.self.inside in
    let place = c.args.place in
    let sources : i.sources ≡ c.args.self.now.sources = ap (λ (b : BatchModel). b.sources) c.self.view_is in
    let many : (q : PackageModel) → slice_get i.sources place ≡ Some q → c.files_at-files.result ≡ length q.1 = λ q there. c.files_at-files.ensures q (ap (λ (l : List PackageModel). slice_get l place) c.packages.ensures.packages ∙ there) in
    let clear : AreRowsClear i.plan place c.args.marks.now c.files_at-files.result = subst (λ (p : PlanModel). AreRowsClear p place c.args.marks.now c.files_at-files.result) c.as_plan.ensures (c.rows_marked.ensures said) in
    imports_clear i.sources i.plan place c.files_at-files.result c.args.marks.now c.self.invariant.plans.well c.self.invariant.plans.planned many clear at m here (subst (λ (ps : List PackageModel). IsOutcome ps at (Package m)) (sym sources) outcome) marked
