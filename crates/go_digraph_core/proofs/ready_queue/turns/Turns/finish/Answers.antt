use Rattle.std.proofs.Common.{◌≡◌, ◌≤◌, ℕ, Vec, Global, List, Some, get_or, length, map, sym, ap, ◌∙◌, subst}
use Rattle.std.specs.Arc.{arc_value}
use Rattle.std.specs.Prelude.{slice_get, vec_capacity}
use Rattle.go_digraph_core.specs.declared.ready_queue.mark.Mark.{Mark}
use Rattle.go_digraph_core.specs.declared.ready_queue.mark.Mark.TheVariants.{Taken}
use Rattle.go_digraph_core.specs.ready_queue.Turns.{TurnsModel}
use Rattle.go_digraph_core.specs.ready_queue.mirrors.Counting.{AreQueued}
use Rattle.go_digraph_core.proofs.ReadyQueueOwing.{queued-set_finished, enough_owed, kept-finished, row_at}
use Rattle.go_digraph_core.proofs.ready_queue.turns.Turns.finish.Goals as goal

pub release-requires-clause-enough : goal.release-requires-clause-enough
release-requires-clause-enough c =
    let i = c.self.inside in
    let taken : slice_get i.marks.items c.args.node ≡ Some Taken = subst (λ (t : TurnsModel). slice_get t.marks c.args.node ≡ Some Taken) (sym c.self.view_is) c.requires in
    enough_owed i.marks.items (map (λ r. r.items) (arc_value i.needing).items) i.counts.missing.items i.counts.queue.items (vec_capacity i.counts.queue) c.args.node c.deref-2.result.now c.self.invariant taken
    (row_at i.marks.items (arc_value i.needing).items c.args.node c.index.result.now c.deref-2.result.now Taken c.self.invariant.many taken (c.index.ensures ∙ ap (λ (v : Vec (Vec ℕ Global) Global). get_or v.items c.args.node c.index.result.now) c.deref.ensures) c.deref-2.ensures.value)

pub release-requires-clause-queued : goal.release-requires-clause-queued
release-requires-clause-queued c =
    let i = c.self.inside in
    let taken : slice_get i.marks.items c.args.node ≡ Some Taken = subst (λ (t : TurnsModel). slice_get t.marks c.args.node ≡ Some Taken) (sym c.self.view_is) c.requires in
    subst (λ (ms : List Mark). AreQueued ms i.counts.missing.items i.counts.queue.items) (sym c.deref-3.ensures.value) (queued-set_finished i.marks.items i.counts.missing.items i.counts.queue.items c.args.node c.self.invariant.queued taken)

pub invariant_of-self : goal.invariant_of-self
invariant_of-self c =
    let i = c.self.inside in
    let taken : slice_get i.marks.items c.args.node ≡ Some Taken = subst (λ (t : TurnsModel). slice_get t.marks c.args.node ≡ Some Taken) (sym c.self.view_is) c.requires in
    let marks = c.deref-3.ensures.value in
    kept-finished i.marks.items (map (λ r. r.items) (arc_value i.needing).items) i.counts.missing.items i.counts.queue.items c.release.new.counts.missing.items c.release.new.counts.queue.items (vec_capacity i.counts.queue) (vec_capacity c.release.new.counts.queue) c.args.node c.deref-2.result.now c.self.invariant taken
    (row_at i.marks.items (arc_value i.needing).items c.args.node c.index.result.now c.deref-2.result.now Taken c.self.invariant.many taken (c.index.ensures ∙ ap (λ (v : Vec (Vec ℕ Global) Global). get_or v.items c.args.node c.index.result.now) c.deref.ensures) c.deref-2.ensures.value)
    (c.release.ensures.many ∙ ap length marks) c.release.ensures.missing
    (subst (λ (ms : List Mark). AreQueued ms c.release.new.counts.missing.items c.release.new.counts.queue.items) marks c.release.ensures.queued)
    (subst (λ (ms : List Mark). length ms ≤ vec_capacity c.release.new.counts.queue) marks c.release.ensures.room)
