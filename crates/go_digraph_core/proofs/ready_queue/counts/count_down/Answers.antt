use Rattle.std.proofs.Common.{◌≡◌, ◌<◌, ◌-◌, ℕ, List, length, set, arith, sym, ◌∙◌, subst}
use Rattle.go_digraph_core.specs.ready_queue.mirrors.Counting.{AreQueued, times}
use Rattle.go_digraph_core.proofs.ReadyQueueTimes.{queue_has_room, queued-join, queued-stay, within_from_some, waiting_at, turn-not_waiting, turn-more, turn-zero}
use Rattle.go_digraph_core.proofs.ready_queue.counts.count_down.Goals as goal
use Rattle.go_digraph_core.proofs.ready_queue.counts.count_down.Goals.{else-left-eq0-via-then-left-eq0+else-is_waiting, else-left-eq0-via-else-left-eq0}

pub push_within-requires : goal.push_within-requires
push_within-requires c =
    let missing = c.args.counts.now.missing.items in
    let within = within_from_some missing c.args.node c.requires.some in
    let there : c.args.node < length c.args.marks.now = omega (arith, within, c.requires.many) in
    let none : times c.args.node c.args.counts.now.queue.items ≡ 0 = c.requires.queued.each c.args.node ∙ turn-zero _ _ c.requires.some in
    omega (arith, queue_has_room c.args.marks.now missing c.args.counts.now.queue.items c.args.node c.requires.queued there none)

pub returns-then-is_waiting-clause-queued : goal.returns-then-is_waiting-clause-queued
returns-then-is_waiting-clause-queued c =
    let missing = c.args.counts.now.missing.items in
    let queue = c.args.counts.now.queue.items in
    let within = within_from_some missing c.args.node c.requires.some in
    let there : c.args.node < length c.args.marks.now = omega (arith, within, c.requires.many) in
    let waits = waiting_at c.args.marks.now c.args.node _ there (sym c.is_waiting.ensures ∙ c.if-is_waiting.true) in
    subst (λ (q : List ℕ). AreQueued c.args.marks.now (set missing c.args.node (c.index.result.now - 1)) q) (sym c.push_within.ensures.items)
    (queued-join c.args.marks.now missing queue c.args.node (c.index.result.now - 1) c.requires.queued within c.requires.some c.if-left-eq0.true waits)

pub returns-else-left-eq0-clause-queued : goal.returns-else-left-eq0-clause-queued
returns-else-left-eq0-clause-queued c =
    let missing = c.args.counts.now.missing.items in
    let queue = c.args.counts.now.queue.items in
    let within = within_from_some missing c.args.node c.requires.some in
    let there : c.args.node < length c.args.marks.now = omega (arith, within, c.requires.many) in
    queued-stay c.args.marks.now missing queue c.args.node (c.index.result.now - 1) c.requires.queued within c.requires.some
    (elim c.else-left-eq0.branch [
      | else-left-eq0-via-then-left-eq0+else-is_waiting w ↦ turn-not_waiting c.args.marks.now c.args.node _ _ there (sym w.is_waiting.ensures ∙ w.if-is_waiting.false)
      | else-left-eq0-via-else-left-eq0 w ↦ turn-more _ _ w.if-left-eq0.false
    ])
