use Rattle.std.proofs.Common.{◌≡◌, ◌-◌, [], ◌∷◌, ◌++◌, Some, refl, sym, ap, ◌∙◌, subst, arith}
use Rattle.std.specs.Prelude.{slice_get, vec_capacity}
use Rattle.go_batch_core.specs.declared.slot.Slot.TheVariants.{Taken, Finished}
use Rattle.go_batch_core.specs.Batches.{Awaits, BatchModel, actions_left}
use Rattle.go_batch_core.specs.declared.tell.Tell.{Tell}
use Rattle.go_batch_core.proofs.Steps.{kept_finished, some_left, left_less}
use Rattle.go_batch_core.proofs.batch.Batch.finish.Goals as goal

pub overflow_sub-self : goal.overflow_sub-self
overflow_sub-self c =
    let i = c.self.inside in
    let e = c.args.ending in
    let taken : slice_get i.slots.items e.place ≡ Some (Taken c.requires.number e.part.input) = subst (λ (b : BatchModel). Awaits b e.place c.requires.number e.part) (sym c.self.view_is) c.requires.awaits in
    omega (arith, some_left i.sources i.plan i.reached i.turns i.slots.items i.parts i.told i.untold.items (vec_capacity i.untold) i.left e.place c.requires.number e.part.input c.self.invariant taken)

pub invariant_of-self : goal.invariant_of-self
invariant_of-self c =
    let i = c.self.inside in
    let e = c.args.ending in
    let taken : slice_get i.slots.items e.place ≡ Some (Taken c.requires.number e.part.input) = subst (λ (b : BatchModel). Awaits b e.place c.requires.number e.part) (sym c.self.view_is) c.requires.awaits in
    let longer = c.push_tell.ensures.items ∙ ap (λ (t : Tell). i.untold.items ++ t ∷ []) c.requires.tells in
    kept_finished c.inputs_stay.ensures i.sources i.plan i.reached i.turns c.finish.new.self i.slots.items i.parts c.put.new.self i.told i.untold.items c.push_tell.new.untold.items (vec_capacity i.untold) (vec_capacity c.push_tell.new.untold) i.left (i.left - 1) e.place c.requires.number e.part c.self.invariant taken c.content-made.ensures.made c.finish.ensures c.put.ensures longer c.push_tell.ensures.room refl

pub push_tell-requires : goal.push_tell-requires
push_tell-requires c =
    let i = c.self.inside in
    let e = c.args.ending in
    let taken : slice_get i.slots.items e.place ≡ Some (Taken c.requires.number e.part.input) = subst (λ (b : BatchModel). Awaits b e.place c.requires.number e.part) (sym c.self.view_is) c.requires.awaits in
    let some = some_left i.sources i.plan i.reached i.turns i.slots.items i.parts i.told i.untold.items (vec_capacity i.untold) i.left e.place c.requires.number e.part.input c.self.invariant taken in
    omega (arith, some, c.self.invariant.has_room)

pub returns-clause-left : goal.returns-clause-left
returns-clause-left c =
    let i = c.self.inside in
    let e = c.args.ending in
    let taken : slice_get i.slots.items e.place ≡ Some (Taken c.requires.number e.part.input) = subst (λ (b : BatchModel). Awaits b e.place c.requires.number e.part) (sym c.self.view_is) c.requires.awaits in
    left_less i.slots.items e.place (Taken c.requires.number e.part.input) Finished taken refl refl ∙ ap actions_left c.self.view_is
