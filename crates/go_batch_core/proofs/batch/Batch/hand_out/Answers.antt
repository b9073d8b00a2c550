use Rattle.std.proofs.Common.{sym, subst, arith}
use Rattle.std.specs.Prelude.{vec_capacity}
use Rattle.std.proofs.lemmas.Option.{slice_get_within}
use Rattle.go_snap_core.specs.whole_workspace.Inputs.{IsInputAt}
use Rattle.go_batch_core.specs.declared.slot.Slot.TheVariants.{Untaken}
use Rattle.go_batch_core.specs.Batches.{BatchModel, IsReady}
use Rattle.go_batch_core.proofs.Steps.{kept_taken, turns_from_ready}
use Rattle.go_batch_core.proofs.batch.Batch.hand_out.Goals as goal

pub take-requires : goal.take-requires
take-requires c =
    let i = c.self.inside in
    turns_from_ready i.sources i.plan i.reached i.turns i.slots.items i.parts i.told i.untold.items (vec_capacity i.untold) i.left c.args.place c.self.invariant (subst (λ (b : BatchModel). IsReady b c.args.place) (sym c.self.view_is) c.requires.ready)

pub index_mut-requires : goal.index_mut-requires
index_mut-requires c =
    let i = c.self.inside in
    let ready = subst (λ (b : BatchModel). IsReady b c.args.place) (sym c.self.view_is) c.requires.ready in
    omega (arith, slice_get_within i.slots.items c.args.place Untaken ready.untaken)

pub invariant_of-self : goal.invariant_of-self
invariant_of-self c =
    let i = c.self.inside in
    kept_taken i.sources i.plan i.reached i.turns c.take.new.self i.slots.items i.parts i.told i.untold.items (vec_capacity i.untold) i.left c.args.place c.args.number c.args.input c.self.invariant
    (subst (λ (b : BatchModel). IsReady b c.args.place) (sym c.self.view_is) c.requires.ready)
    (subst (λ (b : BatchModel). IsInputAt b.sources b.parts c.args.place c.args.input) (sym c.self.view_is) c.requires.input)
    c.take.ensures
