use Rattle.std.proofs.Common.{◌≡◌, ℕ, Option, Some, true, false, sym, ap, ◌∙◌, subst, arith}
use Rattle.std.specs.Prelude.{MatchOption}
use Rattle.std.proofs.lemmas.Option.{slice_get-get_or}
use Rattle.go_block_core.specs.graph_core.Workspaces.{AreAllRead}
use Rattle.go_package_core.specs.package_part.Inputs.{InputModel}
use Rattle.go_package_core.specs.package_part.Parts.{PartModel}
use Rattle.go_batch_core.specs.declared.slot.Slot.TheVariants.{Taken}
use Rattle.go_batch_core.specs.Batches.{Awaits, BatchModel, IsForeign}
use Rattle.go_batch_core.proofs.Steps.{foreign_none, foreign_other, place_within, read_slot}
use Rattle.go_batch_core.proofs.batch.Batch.awaiting.Goals as goal

pub returns-in_err-place : goal.returns-in_err-place
returns-in_err-place c =
    let i = c.self.inside in
    let path = c.as_str.ensures.text ∙ c.path.ensures ∙ ap (λ (x : InputModel). x.source.0) (c.input-input.ensures ∙ ap (λ (p : PartModel). p.input) c.get.ensures.value) in
    subst (λ (o : Option ℕ). MatchOption o (IsForeign c.args.self.now c.args.number c.args.part.now) (λ place. Awaits c.args.self.now place c.args.number c.args.part.now)) (sym c.from_residual.ensures)
    (subst (λ (b : BatchModel). (m : ℕ) → Awaits b m c.args.number c.args.part.now → ⊥) c.self.view_is
    (foreign_none i.sources c.packages.result.now i.slots.items i.parts c.args.number c.args.part.now c.as_str.result.now c.self.invariant.right c.packages.ensures.packages path c.in_err-place.ensures))

pub index-requires : goal.index-requires
index-requires c =
    let i = c.self.inside in
    omega (arith, place_within i.sources c.packages.result.now i.slots.items i.parts c.as_str.result.now c.in_ok-place.place c.in_ok-place.ensures.0 c.self.invariant.right c.packages.ensures.packages c.in_ok-place.ensures.1)

pub is_awaited-requires-clause-own : goal.is_awaited-requires-clause-own
is_awaited-requires-clause-own c =
    let i = c.self.inside in
    let within = place_within i.sources c.packages.result.now i.slots.items i.parts c.as_str.result.now c.in_ok-place.place c.in_ok-place.ensures.0 c.self.invariant.right c.packages.ensures.packages c.in_ok-place.ensures.1 in
    read_slot i.sources i.slots.items i.parts c.in_ok-place.place c.index.result.now c.packages.ensures.read c.self.invariant.right
    (slice_get-get_or i.slots.items c.in_ok-place.place c.index.result.now within ∙ ap Some (sym c.index.ensures))

pub is_awaited-requires-clause-other : goal.is_awaited-requires-clause-other
is_awaited-requires-clause-other c = subst (λ (x : InputModel). AreAllRead x.source) (sym (c.input-input.ensures ∙ ap (λ (p : PartModel). p.input) c.get.ensures.value)) c.get.ensures.read

pub returns-then-is_awaited : goal.returns-then-is_awaited
returns-then-is_awaited c =
    let i = c.self.inside in
    let within = place_within i.sources c.packages.result.now i.slots.items i.parts c.as_str.result.now c.in_ok-place.place c.in_ok-place.ensures.0 c.self.invariant.right c.packages.ensures.packages c.in_ok-place.ensures.1 in
    let input = c.input-input.ensures ∙ ap (λ (p : PartModel). p.input) c.get.ensures.value in
    let is : c.index.result.now ≡ Taken c.args.number c.args.part.now.input = c.is_awaited.ensures.0 c.if-is_awaited.true ∙ ap (Taken c.args.number) input in
    subst (λ (b : BatchModel). Awaits b c.in_ok-place.place c.args.number c.args.part.now) c.self.view_is
    (slice_get-get_or i.slots.items c.in_ok-place.place c.index.result.now within ∙ ap Some (sym c.index.ensures ∙ is))

pub returns-else-is_awaited : goal.returns-else-is_awaited
returns-else-is_awaited c =
    let i = c.self.inside in
    let input = c.input-input.ensures ∙ ap (λ (p : PartModel). p.input) c.get.ensures.value in
    let path = c.as_str.ensures.text ∙ c.path.ensures ∙ ap (λ (x : InputModel). x.source.0) input in
    subst (λ (b : BatchModel). (m : ℕ) → Awaits b m c.args.number c.args.part.now → ⊥) c.self.view_is
    (foreign_other i.sources c.packages.result.now i.slots.items i.parts c.args.number c.args.part.now c.as_str.result.now c.in_ok-place.place c.in_ok-place.ensures.0 c.index.result.now c.self.invariant.plans.well c.self.invariant.right c.packages.ensures.packages path c.in_ok-place.ensures.1 c.index.ensures
    (λ e. let t : c.is_awaited.result ≡ true = c.is_awaited.ensures.1 (e ∙ ap (Taken c.args.number) (sym input)) in let f : c.is_awaited.result ≡ false = c.if-is_awaited.false in cc))
