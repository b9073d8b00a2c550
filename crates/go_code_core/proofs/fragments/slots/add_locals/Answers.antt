use Rattle.std.proofs.Common.{refl}
use Rattle.go_tree_nodes.specs.TypeShapes.{shape_idents}
use Rattle.go_code_core.specs.fragments.Slots.{local_slot, local_slots}
use Rattle.go_code_core.specs.fragments.mirrors.Listing.{locals_more}
use Rattle.go_code_core.proofs.FragmentsSlotted.{all_locals, ended}
use Rattle.go_code_core.proofs.fragments.slots.add_locals.Goals as goal

pub returns : goal.returns
returns c =
    let xs = c.args.names.now in
    ended locals_more refl c.deref-next-items.result.now xs.more.items c.loop-next.next-index c.deref-next-items.ensures.value c.loop-next-test.false
    (local_slot xs.first) c.args.slots.now.items c.add_local.new.slots.items c.loop-next.slots.items (local_slots (shape_idents xs)) c.in_ok-add_local.ensures c.loop-next.invariant (all_locals xs.first xs.more.items)
