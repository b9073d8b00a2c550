use Rattle.std.proofs.Common.{◌≡◌, Some, None, refl, sym, ap, subst, ◌∙◌}
use Rattle.std.proofs.lemmas.Option.{slice_get_within, get_or_from_slice_get, slice_get_read}
use Rattle.std.proofs.lemmas.Result.{IfOk-weaker}
use Rattle.go_names_core.specs.block_core.declared.imports.Imported.TheVariants as imported
use Rattle.go_names_core.specs.block_core.Naming.{IsGiven}
use Rattle.go_names_core.specs.block_core.mirrors.Steps.{HasExports, IsShownIn}
use Rattle.go_snap_core.specs.whole_workspace.mirrors.Steps.{exports_in}
use Rattle.go_snap_core.proofs.WholeWorkspaceInputting.{shown_from, shown_to}
use Rattle.go_snap_core.proofs.make.inputs.given.Goals as goal

pub bounds-parts-number : goal.bounds-parts-number
bounds-parts-number c =
    let there = subst (HasExports (exports_in c.args.parts.now)) c.in-Package.is c.requires in
    let part = shown_from c.args.parts.now c.in-Package.number there.0 there.1 in
    slice_get_within c.args.parts.now c.in-Package.number (Some part.0) part.1

pub unreachable-requires : goal.unreachable-requires
unreachable-requires c =
    let there = subst (HasExports (exports_in c.args.parts.now)) c.in-Package.is c.requires in
    let part = shown_from c.args.parts.now c.in-Package.number there.0 there.1 in
    let none : None ≡ Some part.0 = sym c.in-None.is ∙ (c.index-parts-number.is ∙ get_or_from_slice_get c.args.parts.now c.in-Package.number (Some part.0) c.index-parts-number.result part.1) in
    cc
