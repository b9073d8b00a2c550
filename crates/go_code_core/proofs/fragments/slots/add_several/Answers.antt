use Rattle.std.proofs.Common.{refl}
use Rattle.go_tree_nodes.specs.TypeShapes.{shape_idents}
use Rattle.go_code_core.specs.fragments.Slots.{new_slot, new_slots}
use Rattle.go_code_core.specs.fragments.mirrors.Listing.{new_more}
use Rattle.go_code_core.proofs.FragmentsSlotted.{all_new, ended}
use Rattle.go_code_core.proofs.fragments.slots.add_several.Goals as goal

pub returns : goal.returns
returns g c =
    let looks = g.N.CodeNames.looks c.args.names.now in
    let xs = c.args.idents.now in
    ended (new_more looks) refl c.deref-next-items.result.now xs.more.items c.loop-next.next-index c.deref-next-items.ensures.value c.loop-next-test.false
    (new_slot looks xs.first) c.args.slots.now.items c.add_new.new.slots.items c.loop-next.slots.items (new_slots looks (shape_idents xs)) c.in_ok-add_new.ensures c.loop-next.invariant (all_new looks xs.first xs.more.items)
