use Rattle.std.proofs.Common.{rules, ◌≡◌, ℕ, length, arith, sym, ap, ◌∙◌, subst, refl}
use Rattle.go_digraph_core.proofs.ReadyQueueOwing.{queued_more, queued_all, AreQueuedTo}
use Rattle.std.proofs.Common.{Vec, Global, vec_capacity, inl, inr}
use Rattle.std.specs.Prelude.{slice_get}
use Rattle.go_digraph_core.specs.ready_queue.mirrors.Counting.{turn}
use Rattle.go_digraph_core.proofs.ReadyQueueTimes.{waiting_at, turn-not_waiting, turn-more}
use Rattle.go_digraph_core.proofs.ready_queue.counts.queued.Goals as goal
use Rattle.go_digraph_core.proofs.ready_queue.counts.queued.Goals.{then-missing-node-eq0+then-is_waiting, else-missing-node-eq0, else-missing-node-eq0-via-then-missing-node-eq0+else-is_waiting, else-missing-node-eq0-via-else-missing-node-eq0}

pub loop-node-init : goal.loop-node-init
loop-node-init c = record { so_far = record { passed = λ n below. absurd (omega arith); ahead = λ n above. rw c.in_ok-queue.ensures.items refl; fits = rw c.in_ok-queue.ensures.items (omega arith) }; room = search rules }

pub loop-node-preserved : goal.loop-node-preserved
loop-node-preserved c =
    let node = c.loop-node.node in
    let marks = c.args.marks.now in
    let missing = c.args.missing.now in
    record {
      so_far = queued_more node marks missing c.loop-node.queue.items c.if-missing-node-eq0.queue.items c.loop-node.invariant.so_far
          (elim c.if-missing-node-eq0.branch [
            | then-missing-node-eq0+then-is_waiting w ↦ inl (
              ap (λ (v : Vec ℕ Global). v.items) w.queue-is ∙ w.push_within.ensures.items,
              ap (turn (slice_get marks node)) w.if-missing-node-eq0.true ∙ ap (λ m. turn m 0) (waiting_at marks node _ (omega arith) (sym w.is_waiting.ensures ∙ w.if-is_waiting.true)),
            )
            | else-missing-node-eq0 w ↦ inr (
              ap (λ (v : Vec ℕ Global). v.items) w.queue-is,
              elim w.else-missing-node-eq0.branch [
                | else-missing-node-eq0-via-then-missing-node-eq0+else-is_waiting w' ↦ turn-not_waiting marks node _ _ (omega arith) (sym w'.is_waiting.ensures ∙ w'.if-is_waiting.false)
                | else-missing-node-eq0-via-else-missing-node-eq0 w' ↦ turn-more _ _ w'.if-missing-node-eq0.false
              ],
            )
          ]);
      room = elim c.if-missing-node-eq0.branch [
        | then-missing-node-eq0+then-is_waiting w ↦ omega (arith, w.push_within.ensures.room, ap vec_capacity w.queue-is, c.loop-node.invariant.room)
        | else-missing-node-eq0 w ↦ omega (arith, ap vec_capacity w.queue-is, c.loop-node.invariant.room)
      ];
    }

pub returns-clause-queued : goal.returns-clause-queued
returns-clause-queued c =
    let end : c.loop-node.node ≡ length c.args.marks.now = omega arith in
    queued_all c.args.marks.now c.args.missing.now c.loop-node.queue.items (subst (λ (k : ℕ). AreQueuedTo k c.args.marks.now c.args.missing.now c.loop-node.queue.items) end c.loop-node.invariant.so_far)
