use Rattle.std.proofs.Common.{sym, subst}
use Rattle.go_snap_core.specs.whole_workspace.Inputs.{AreParts}
use Rattle.go_snap_core.proofs.making.made_again.Goals as goal

pub parts_again-requires : goal.parts_again-requires
parts_again-requires c =
    let ps = c.sources-sources.result.now in
    subst (AreParts ps) (sym c.parts.ensures) (subst (λ l. AreParts l c.args.earlier.now.parts) (sym c.sources-sources.ensures.value) c.sources-sources.ensures.whole.made)
