use Rattle.std.proofs.Common.{ap}
use Rattle.go_emit_core.specs.package_core.PackagePartInputs.{InputModel}
use Rattle.go_snap_core.proofs.WholeWorkspaceInputting.{input_made, reached_there, told_apart, told_is, told_others}
use Rattle.go_snap_core.proofs.MakeTelling.{told_by_set, told_for}
use Rattle.go_snap_core.proofs.make.inputs.input_over.Goals as goal

pub told_to-requires : goal.told_to-requires
told_to-requires c =
    let there = reached_there c.args.workspace.now c.args.plan.now c.requires.plan c.args.parts.now c.args.number c.requires.parts c.args.reached.now c.packages-packages.ensures.well c.requires.reached c.requires.many c.requires.assembled in
    told_for c.args.parts.now c.args.told.now c.requires.told c.args.reached.now c.args.number there

pub with_reached-requires : goal.with_reached-requires
with_reached-requires c =
    let ps = c.args.workspace.now in
    let n = c.args.number in
    let ss = c.in_ok-summaries.summaries in
    let well = c.packages-packages.ensures.well in
    let by_set = told_by_set c.args.parts.now c.args.told.now c.requires.told c.args.reached.now n ss c.in_ok-summaries.ensures in
    let told = told_is ps c.args.plan.now c.requires.plan c.args.parts.now n c.requires.parts c.args.reached.now ss well c.requires.reached by_set in
    record {
      apart = told_apart ps c.args.plan.now c.requires.plan c.args.parts.now n c.requires.parts ss well told;
      others = told_others ps c.args.plan.now c.requires.plan c.args.parts.now n c.requires.parts c.args.earlier.now.source ss well c.requires.numbered told;
    }

pub returns : goal.returns
returns c =
    let ps = c.args.workspace.now in
    let n = c.args.number in
    let i = c.args.earlier.now in
    let ss = c.in_ok-summaries.summaries in
    let well = c.packages-packages.ensures.well in
    let by_set = told_by_set c.args.parts.now c.args.told.now c.requires.told c.args.reached.now n ss c.in_ok-summaries.ensures in
    let told = told_is ps c.args.plan.now c.requires.plan c.args.parts.now n c.requires.parts c.args.reached.now ss well c.requires.reached by_set in
    let is = c.in_ok-input.ensures in
    input_made ps c.args.plan.now c.requires.plan c.args.parts.now n c.requires.parts i.source i.imports ss c.in_ok-input.input c.requires.numbered c.requires.imports told
    (ap (λ (x : InputModel). x.source) is) (ap (λ (x : InputModel). x.imports) is) (ap (λ (x : InputModel). x.reached) is)
