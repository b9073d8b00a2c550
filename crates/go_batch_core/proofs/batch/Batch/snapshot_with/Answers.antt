use Rattle.std.proofs.Common.{◌≡◌, List, Option, Some, set, refl, sym, ap, ◌∙◌, subst, arith}
use Rattle.std.specs.Prelude.{slice_get}
use Rattle.go_block_core.specs.graph_core.Workspaces.{PackageModel}
use Rattle.go_package_core.specs.package_part.Parts.{PartModel}
use Rattle.go_snap_core.specs.whole_workspace.Inputs.{AreParts}
use Rattle.go_batch_core.specs.declared.slot.Slot.TheVariants.{Taken, Finished}
use Rattle.go_batch_core.specs.Batches.{Awaits, BatchModel, actions_left, unfinished}
use Rattle.go_package_core.specs.package_part.Parts.{IsPart}
use Rattle.go_batch_core.proofs.Steps.{all_parts, right_finished, left_less}
use Rattle.go_batch_core.proofs.batch.Batch.snapshot_with.Goals as goal

pub joined-requires : goal.joined-requires
joined-requires c =
    let i = c.self.inside in
    let p = c.args.part.now in
    let number = c.requires.awaits.0 in
    let taken : slice_get i.slots.items c.args.place ≡ Some (Taken number p.input) = subst (λ (b : BatchModel). Awaits b c.args.place number p) (sym c.self.view_is) c.requires.awaits.1 in
    let one : unfinished i.slots.items ≡ 1 = ap actions_left c.self.view_is ∙ c.requires.last in
    let none : unfinished (set i.slots.items c.args.place Finished) ≡ 0 = omega (arith, one, left_less i.slots.items c.args.place (Taken number p.input) Finished taken refl refl) in
    let made : IsPart p.input p.content = subst (λ (q : PartModel). IsPart q.input q.content) c.get.ensures.value c.content-made.ensures.made in
    let last : c.in_ok-last.last ≡ p = c.in_ok-last.ensures ∙ c.get-2.ensures.value in
    let put : c.put.new.self ≡ set i.parts c.args.place (Some p) = c.put.ensures ∙ (λ k. set (c.in_ok-parts.ensures k) c.args.place (Some (last k))) in
    subst (λ (ps : List PackageModel). AreParts ps c.put.new.self) (sym c.in_ok-sources.ensures.same) (subst (λ (l : List (Option PartModel)). AreParts i.sources l) (sym put)
    (all_parts c.parts_come_in_order.ensures i.sources (set i.slots.items c.args.place Finished) (set i.parts c.args.place (Some p)) (right_finished c.inputs_stay.ensures i.sources i.slots.items i.parts c.args.place number p c.self.invariant.right taken made) none))
