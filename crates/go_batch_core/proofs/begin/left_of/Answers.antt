use Rattle.std.proofs.Common.{◌≡◌, ◌+◌, ◌≤◌, true, false, take, sym, ap, ◌∙◌, arith}
use Rattle.go_batch_core.specs.Batches.{unfinished}
use Rattle.go_batch_core.proofs.Steps.{left_below, left_more}
use Rattle.go_batch_core.proofs.begin.left_of.Goals.{then-is_left, else-is_left}
use Rattle.go_batch_core.proofs.begin.left_of.Goals as goal

pub overflow_add-left : goal.overflow_add-left
overflow_add-left c =
    let i = c.loop-slot.slot-index in
    let below : unfinished (take i c.args.slots.now) ≤ i = left_below c.args.slots.now i (omega arith) in
    omega (arith, c.loop-slot.invariant, below)

pub loop-slot-preserved : goal.loop-slot-preserved
loop-slot-preserved c =
    let xs = c.args.slots.now in
    let i = c.loop-slot.slot-index in
    let item = c.slot-item.result in
    elim c.if-is_left.branch [
      | then-is_left w ↦ w.left-is ∙ ap (λ n. n + 1) c.loop-slot.invariant ∙ sym (left_more xs i item true (omega arith) c.slot-item.is (sym c.is_left.ensures ∙ w.if-is_left.true))
      | else-is_left w ↦ w.left-is ∙ c.loop-slot.invariant ∙ (let same : unfinished (take i xs) ≡ unfinished (take i xs) + 0 = omega arith in same) ∙ sym (left_more xs i item false (omega arith) c.slot-item.is (sym c.is_left.ensures ∙ w.if-is_left.false))
    ]
