use Rattle.std.proofs.Common.{subst}
use Rattle.std.specs.Prelude.{vec_capacity}
use Rattle.go_batch_core.specs.Batches.{BatchModel, IsReady, NoneReady}
use Rattle.go_batch_core.proofs.Slots.{match_more}
use Rattle.go_batch_core.proofs.Steps.{ready_from_turns, turns_from_ready}
use Rattle.go_batch_core.proofs.batch.Batch.ready.Goals as goal

pub returns : goal.returns
returns c =
    let i = c.self.inside in
    match_more c.next.result c.next.ensures
    (λ none. subst NoneReady c.self.view_is (λ n ready. none n (turns_from_ready i.sources i.plan i.reached i.turns i.slots.items i.parts i.told i.untold.items (vec_capacity i.untold) i.left n c.self.invariant ready)))
    (λ n ready. subst (λ (b : BatchModel). IsReady b n) c.self.view_is (ready_from_turns i.sources i.plan i.reached i.turns i.slots.items i.parts i.told i.untold.items (vec_capacity i.untold) i.left n c.self.invariant ready))
