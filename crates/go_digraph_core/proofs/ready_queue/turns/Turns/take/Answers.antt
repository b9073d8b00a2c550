use Rattle.std.proofs.Common.{map, sym, subst}
use Rattle.std.specs.Arc.{arc_value}
use Rattle.std.specs.Prelude.{vec_capacity}
use Rattle.go_digraph_core.specs.ready_queue.Turns.{TurnsModel, IsReady}
use Rattle.go_digraph_core.proofs.ReadyQueueOwing.{queue_from_ready, kept-taken}
use Rattle.go_digraph_core.proofs.ready_queue.turns.Turns.take.Goals as goal

pub take_out-requires : goal.take_out-requires
take_out-requires c =
    let i = c.self.inside in
    queue_from_ready i.marks.items (map (λ r. r.items) (arc_value i.needing).items) i.counts.missing.items i.counts.queue.items (vec_capacity i.counts.queue) c.args.node c.self.invariant
    (subst (λ (t : TurnsModel). IsReady t c.args.node) (sym c.self.view_is) c.requires)

pub invariant_of-self : goal.invariant_of-self
invariant_of-self c =
    let i = c.self.inside in
    kept-taken i.marks.items (map (λ r. r.items) (arc_value i.needing).items) i.counts.missing.items i.counts.queue.items c.take_out.new.queue.items (vec_capacity i.counts.queue) (vec_capacity c.take_out.new.queue) c.args.node c.self.invariant
    (subst (λ (t : TurnsModel). IsReady t c.args.node) (sym c.self.view_is) c.requires) c.take_out.ensures.each c.take_out.ensures.room
