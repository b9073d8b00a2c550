use Rattle.std.proofs.Common.{◌-◌, ℕ, length, map, ap, ◌∙◌, subst}
use Rattle.std.specs.Arc.{arc_value}
use Rattle.std.specs.Prelude.{MatchOption, slice_get, vec_capacity}
use Rattle.go_digraph_core.specs.ready_queue.Turns.{TurnsModel, IsReady}
use Rattle.go_digraph_core.proofs.ReadyQueueOwing.{next_in_queue}
use Rattle.go_digraph_core.proofs.ready_queue.turns.Turns.next.Goals as goal

pub returns : goal.returns
returns c =
    let i = c.self.inside in
    subst (λ (t : TurnsModel). MatchOption c.copied.result ((node : ℕ) → IsReady t node → ⊥) (λ node. IsReady t node)) c.self.view_is
    (next_in_queue i.marks.items (map (λ r. r.items) (arc_value i.needing).items) i.counts.missing.items i.counts.queue.items (vec_capacity i.counts.queue) c.copied.result c.self.invariant
    (c.copied.ensures ∙ c.last.ensures.value ∙ ap (λ q. slice_get q (length q - 1)) c.deref.ensures.value))
