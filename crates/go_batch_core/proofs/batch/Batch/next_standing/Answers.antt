use Rattle.std.proofs.Common.{◌≡◌, sym, ap, ◌∙◌, subst}
use Rattle.go_package_core.specs.package_part.Inputs.{InputModel}
use Rattle.go_package_core.specs.package_part.Parts.{IsPart, PartModel}
use Rattle.go_snap_core.specs.whole_workspace.Inputs.{IsInputAt}
use Rattle.go_batch_core.specs.Batches.{HasImports}
use Rattle.go_batch_core.proofs.batch.Batch.next_standing.Goals as goal

pub input_over_at-requires-clause-imports : goal.input_over_at-requires-clause-imports
input_over_at-requires-clause-imports c = subst (HasImports c.args.self.now c.args.place) (sym c.input.ensures) c.requires.imports

pub with_input-requires : goal.with_input-requires
with_input-requires c = c.requires.stands.each c.in_ok-input.input c.reached-reached.ensures.well c.in_ok-input.ensures

pub next_known-requires-clause-input : goal.next_known-requires-clause-input
next_known-requires-clause-input c = subst (λ (p : PartModel). IsInputAt c.args.self.now.sources c.args.self.now.parts c.args.place p.input) (sym c.in_ok-known.ensures) c.in_ok-input.ensures

pub returns-clause-made : goal.returns-clause-made
returns-clause-made c =
    let input = c.in_ok-input.input in
    let given : IsPart input c.args.part.now.content = c.requires.stands.each input c.reached-reached.ensures.well c.in_ok-input.ensures in
    let same : c.in_ok-next.next.input ≡ input = c.in_ok-next.ensures.input ∙ ap (λ (p : PartModel). p.input) c.in_ok-known.ensures in
    subst (λ (i : InputModel). IsPart i c.args.part.now.content) (sym same) given
