use Rattle.std.proofs.Common.{◌≡◌, ℕ, Option, Some, sym, ap, ◌∙◌, subst, arith}
use Rattle.std.specs.Prelude.{MatchOption, slice_get}
use Rattle.std.proofs.lemmas.Option.{slice_get-get_or}
use Rattle.go_package_core.specs.package_part.Inputs.{InputModel}
use Rattle.go_package_core.specs.package_part.Parts.{PartModel}
use Rattle.go_batch_core.specs.declared.slot.Slot.{Slot}
use Rattle.go_batch_core.specs.declared.slot.Slot.TheVariants.{Taken}
use Rattle.go_batch_core.specs.Batches.{Awaits, BatchModel, IsForeign, IsKnown}
use Rattle.go_batch_core.proofs.Steps.{foreign_none, foreign_other, place_within}
use Rattle.go_batch_core.proofs.batch.Batch.awaiting_known.Goals as goal

pub returns-in_err-place : goal.returns-in_err-place
returns-in_err-place c =
    let i = c.self.inside in
    let path = c.as_str.ensures.text ∙ c.path.ensures ∙ ap (λ (x : InputModel). x.source.0) (c.input-input.ensures ∙ ap (λ (p : PartModel). p.input) c.get.ensures.value) in
    subst (λ (o : Option ℕ). MatchOption o (IsForeign c.args.self.now c.args.number c.args.part.now) (λ place. Awaits c.args.self.now place c.args.number c.args.part.now)) (sym c.from_residual.ensures)
    (subst (λ (b : BatchModel). (m : ℕ) → Awaits b m c.args.number c.args.part.now → ⊥) c.self.view_is
    (foreign_none i.sources c.packages.result.now i.slots.items i.parts c.args.number c.args.part.now c.as_str.result.now c.self.invariant.right c.packages.ensures.packages path c.in_err-place.ensures))

pub index-requires : goal.index-requires
index-requires c =
    let i = c.self.inside in
    omega (arith, place_within i.sources c.packages.result.now i.slots.items i.parts c.as_str.result.now c.in_ok-place.place c.in_ok-place.ensures.0 c.self.invariant.right c.packages.ensures.packages c.in_ok-place.ensures.1)

pub returns-then-is_taken_under : goal.returns-then-is_taken_under
returns-then-is_taken_under c =
    let i = c.self.inside in
    let within = place_within i.sources c.packages.result.now i.slots.items i.parts c.as_str.result.now c.in_ok-place.place c.in_ok-place.ensures.0 c.self.invariant.right c.packages.ensures.packages c.in_ok-place.ensures.1 in
    let taken = c.is_taken_under.ensures.taken c.if-is_taken_under.true in
    let there : slice_get i.slots.items c.in_ok-place.place ≡ Some c.index.result.now = slice_get-get_or i.slots.items c.in_ok-place.place c.index.result.now within ∙ ap Some (sym c.index.ensures) in
    let known = subst (λ (b : BatchModel). IsKnown b c.args.number c.args.part.now.input) (sym c.self.view_is) c.requires in
    let input : taken.0 ≡ c.args.part.now.input = known c.in_ok-place.place taken.0 (there ∙ ap Some taken.1) in
    subst (λ (b : BatchModel). Awaits b c.in_ok-place.place c.args.number c.args.part.now) c.self.view_is
    (there ∙ ap Some (taken.1 ∙ ap (Taken c.args.number) input))

pub returns-else-is_taken_under : goal.returns-else-is_taken_under
returns-else-is_taken_under c =
    let i = c.self.inside in
    let input = c.input-input.ensures ∙ ap (λ (p : PartModel). p.input) c.get.ensures.value in
    let path = c.as_str.ensures.text ∙ c.path.ensures ∙ ap (λ (x : InputModel). x.source.0) input in
    subst (λ (b : BatchModel). (m : ℕ) → Awaits b m c.args.number c.args.part.now → ⊥) c.self.view_is
    (foreign_other i.sources c.packages.result.now i.slots.items i.parts c.args.number c.args.part.now c.as_str.result.now c.in_ok-place.place c.in_ok-place.ensures.0 c.index.result.now c.self.invariant.plans.well c.self.invariant.right c.packages.ensures.packages path c.in_ok-place.ensures.1 c.index.ensures
    (c.is_taken_under.ensures.other c.if-is_taken_under.false c.args.part.now.input))
