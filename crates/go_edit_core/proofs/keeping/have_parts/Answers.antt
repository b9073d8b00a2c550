use Rattle.std.proofs.Common.{[], ◌∷◌, ◌++◌, map, take, arith, sym, ap, ◌∙◌}
use Rattle.std.specs.Prelude.{is_some}
use Rattle.std.proofs.lemmas.List.{map_more, take_all}
use Rattle.go_edit_core.proofs.keeping.have_parts.Goals as goal

pub loop-slot-init : goal.loop-slot-init
loop-slot-init c = c.in_ok-have.ensures.items

pub loop-slot-preserved : goal.loop-slot-preserved
loop-slot-preserved c =
    let xs = c.args.parts.now in
    let i = c.loop-slot.slot-index in
    let item = c.slot-item.result in
    c.in_ok-add.ensures
    ∙ ap (λ l. l ++ c.is_there.result ∷ []) c.loop-slot.invariant
    ∙ ap (λ b. map is_some (take i xs) ++ b ∷ []) (c.is_there.ensures ∙ ap is_some c.slot-item.is)
    ∙ sym (map_more is_some xs i item (omega arith))

pub returns : goal.returns
returns c = c.loop-slot.invariant ∙ ap (map is_some) (take_all c.loop-slot.slot-index c.args.parts.now (omega arith))
