use Rattle.std.proofs.Common.{◌≡◌, ◌≤◌, ℕ, Vec, Global, vec_capacity, List, length, map, ap, ◌∙◌, subst, arith}
use Rattle.std.specs.Arc.{arc_value}
use Rattle.go_digraph_core.specs.declared.ready_queue.mark.Mark.{Mark}
use Rattle.go_digraph_core.specs.ready_queue.mirrors.Counting.{AreQueued, total}
use Rattle.go_digraph_core.proofs.ReadyQueueOwing.{kept-new, length_mapped}
use Rattle.go_digraph_core.proofs.ready_queue.turns.Turns.new.Goals as goal

pub invariant_of-result : goal.invariant_of-result
invariant_of-result c =
    let rows = map (λ r. r.items) (arc_value c.args.needing).items in
    let missing = c.in_ok-missing.missing.items in
    let queued = c.in_ok-queue.ensures in
    let long : length missing ≡ length c.args.marks.items = omega (arith, c.in_ok-missing.ensures.many, c.len.ensures) in
    kept-new c.args.marks.items rows missing c.in_ok-queue.queue.items (vec_capacity c.in_ok-queue.queue) c.requires.fresh (omega (arith, length_mapped (arc_value c.args.needing).items, c.requires.many)) c.requires.nodes long
    (λ n. c.in_ok-missing.ensures.each n ∙ ap (λ r. total n (map (λ (v : Vec ℕ Global). v.items) r)) (c.as_slice.ensures.value ∙ ap (λ (v : Vec (Vec ℕ Global) Global). v.items) c.deref.ensures))
    (subst (λ (m : List ℕ). AreQueued c.args.marks.items m c.in_ok-queue.queue.items) c.deref-3.ensures.value (subst (λ (m : List Mark). AreQueued m c.deref-3.result.now c.in_ok-queue.queue.items) c.deref-2.ensures.value queued.queued))
    (subst (λ (m : List Mark). length m ≤ vec_capacity c.in_ok-queue.queue) c.deref-2.ensures.value queued.room)
