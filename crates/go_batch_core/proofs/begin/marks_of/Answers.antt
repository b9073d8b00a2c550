use Rattle.std.proofs.Common.{[], ◌∷◌, ◌++◌, map, take, arith, sym, ap, ◌∙◌}
use Rattle.std.proofs.lemmas.List.{map_more, take_all}
use Rattle.go_batch_core.specs.mirrors.Keeping.{mark_of}
use Rattle.go_batch_core.proofs.begin.marks_of.Goals as goal

pub loop-slot-init : goal.loop-slot-init
loop-slot-init c = c.in_ok-marks.ensures.items

pub loop-slot-preserved : goal.loop-slot-preserved
loop-slot-preserved c =
    let xs = c.args.slots.now in
    let i = c.loop-slot.slot-index in
    let item = c.slot-item.result in
    c.in_ok-add.ensures
    ∙ ap (λ l. l ++ c.mark.result ∷ []) c.loop-slot.invariant
    ∙ ap (λ m. map mark_of (take i xs) ++ m ∷ []) (c.mark.ensures ∙ ap mark_of c.slot-item.is)
    ∙ sym (map_more mark_of xs i item (omega arith))

pub returns : goal.returns
returns c = c.loop-slot.invariant ∙ ap (map mark_of) (take_all c.loop-slot.slot-index c.args.slots.now (omega arith))
