use Rattle.std.proofs.Common.{subst}
use Rattle.go_block_core.specs.graph_core.Workspaces.{IsWorkspace}
use Rattle.go_snap_core.specs.whole_workspace.mirrors.Steps as steps
use Rattle.go_batch_core.specs.Batches.{BatchModel}
use Rattle.go_batch_core.proofs.Once.{whole_right}
use Rattle.go_batch_core.proofs.batch.Batch.has_right_parts.Goals as goal

pub returns-clause-well : goal.returns-clause-well
returns-clause-well c = subst (λ (b : BatchModel). IsWorkspace b.sources) c.self.view_is c.self.invariant.plans.well

pub returns-clause-right : goal.returns-clause-right
returns-clause-right c =
    let i = c.self.inside in
    subst (λ (b : BatchModel). steps.AreRight b.sources b.parts) c.self.view_is (whole_right i.sources i.slots.items i.parts c.self.invariant.plans.well c.self.invariant.right)
