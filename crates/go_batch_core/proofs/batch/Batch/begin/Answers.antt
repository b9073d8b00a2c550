use Rattle.std.proofs.Common.{None, length, map, replicate, refl, sym, ap, ◌∙◌}
use Rattle.std.specs.Prelude.{vec_capacity}
use Rattle.go_batch_core.specs.Batches.{unfinished}
use Rattle.go_batch_core.specs.mirrors.Keeping.{mark_of}
use Rattle.go_batch_core.proofs.Beginning.{busy, order_within, fresh_slots, kept_begun, begun, ordered_by}
use Rattle.go_batch_core.proofs.batch.Batch.begin.Goals as goal

pub slots_of-requires : goal.slots_of-requires
slots_of-requires c = order_within c.args.sources c.packages-count.result.now c.args.planned.plan c.order.result.now (length c.packages-count.result.now) c.requires.planned c.order.ensures c.packages-count.ensures.packages refl

pub turns_of-requires-clause-many : goal.turns_of-requires-clause-many
turns_of-requires-clause-many c = ap length c.deref.ensures.value ∙ c.in_ok-slots.ensures.many ∙ ap length c.packages-count.ensures.packages ∙ sym c.requires.planned.many

pub turns_of-requires-clause-fresh : goal.turns_of-requires-clause-fresh
turns_of-requires-clause-fresh c =
    let ordered = ordered_by c.args.sources c.packages-count.result.now c.args.planned.plan c.order.result.now (length c.packages-count.result.now) c.in_ok-slots.slots.items c.order.ensures c.packages-count.ensures.packages refl c.in_ok-slots.ensures.many c.in_ok-slots.ensures.ordered c.in_ok-slots.ensures.others in
    fresh_slots (length c.args.sources) c.args.planned.plan.order c.in_ok-slots.slots.items c.deref.result.now ordered c.deref.ensures.value

pub invariant_of-result : goal.invariant_of-result
invariant_of-result c =
    let ordered = ordered_by c.args.sources c.packages-count.result.now c.args.planned.plan c.order.result.now (length c.packages-count.result.now) c.in_ok-slots.slots.items c.order.ensures c.packages-count.ensures.packages refl c.in_ok-slots.ensures.many c.in_ok-slots.ensures.ordered c.in_ok-slots.ensures.others in
    kept_begun c.args.sources c.args.planned.plan c.args.planned.reached c.in_ok-turns.turns c.in_ok-slots.slots.items c.in_ok-parts.parts c.in_ok-told.told c.in_ok-untold.untold.items (vec_capacity c.in_ok-untold.untold) c.left_of-left.result
    c.requires
    ordered c.in_ok-turns.ensures.importers c.in_ok-turns.ensures.many (c.in_ok-turns.ensures.marks ∙ ap (map mark_of) c.deref.ensures.value)
    (c.in_ok-parts.ensures ∙ ap (λ l. replicate (length l) None) c.packages-count.ensures.packages)
    (c.in_ok-told.ensures ∙ ap (λ l. replicate (length l) None) c.packages-count.ensures.packages)
    (c.left_of-left.ensures ∙ ap unfinished c.deref-2.ensures.value)
    c.in_ok-untold.ensures.items c.in_ok-untold.ensures.capacity

pub returns-clause-begun : goal.returns-clause-begun
returns-clause-begun c =
    let ordered = ordered_by c.args.sources c.packages-count.result.now c.args.planned.plan c.order.result.now (length c.packages-count.result.now) c.in_ok-slots.slots.items c.order.ensures c.packages-count.ensures.packages refl c.in_ok-slots.ensures.many c.in_ok-slots.ensures.ordered c.in_ok-slots.ensures.others in
    begun c.args.sources c.args.planned.plan c.in_ok-slots.slots.items c.in_ok-parts.parts c.requires.planned ordered (c.in_ok-parts.ensures ∙ ap (λ l. replicate (length l) None) c.packages-count.ensures.packages)

pub returns-clause-busy : goal.returns-clause-busy
returns-clause-busy c =
    let ordered = ordered_by c.args.sources c.packages-count.result.now c.args.planned.plan c.order.result.now (length c.packages-count.result.now) c.in_ok-slots.slots.items c.order.ensures c.packages-count.ensures.packages refl c.in_ok-slots.ensures.many c.in_ok-slots.ensures.ordered c.in_ok-slots.ensures.others in
    busy c.args.sources c.args.planned.plan c.in_ok-slots.slots.items c.in_ok-parts.parts c.requires.planned ordered
