use Rattle.std.proofs.Common.{sym, subst}
use Rattle.go_snap_core.specs.whole_workspace.Inputs.{HasReached}
use Rattle.go_batch_core.specs.Batches.{BatchModel, IsReady}
use Rattle.go_batch_core.proofs.Steps.{has_reached}
use Rattle.go_batch_core.proofs.batch.Batch.has_reached.Goals as goal

pub returns : goal.returns
returns c =
    let i = c.self.inside in
    let ready = subst (λ (b : BatchModel). IsReady b c.args.place) (sym c.self.view_is) c.requires in
    subst (λ (b : BatchModel). HasReached b.sources b.parts c.args.place) c.self.view_is
    (has_reached c.parts_come_in_order.ensures i.sources i.slots.items i.parts c.args.place c.self.invariant.right ready.imports)
