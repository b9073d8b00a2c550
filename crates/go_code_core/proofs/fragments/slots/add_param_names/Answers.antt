use Rattle.std.proofs.Common.{refl, ◌∷◌, []}
use Rattle.go_tree_nodes.specs.TypeShapes.{shape_idents}
use Rattle.go_code_core.specs.fragments.Slots.{param_names_slots}
use Rattle.go_code_core.specs.fragments.mirrors.Listing.{param_names_more}
use Rattle.go_code_core.proofs.FragmentsSlotted.{all_params, ended}
use Rattle.go_code_core.proofs.fragments.slots.add_param_names.Goals as goal

pub returns : goal.returns
returns c =
    let xs = c.args.names.now in
    ended param_names_more refl c.deref-next-items.result.now xs.more.items c.loop-next.next-index c.deref-next-items.ensures.value c.loop-next-test.false
    (c.param_slot.result ∷ []) c.args.slots.now.items c.add.new.all.items c.loop-next.slots.items (param_names_slots (shape_idents xs)) c.in_ok-add.ensures c.loop-next.invariant
    (all_params xs.first xs.more.items c.param_slot.result c.param_slot.ensures)
