use Rattle.std.proofs.Common.{sym, subst, ◌∙◌}
use Rattle.go_snap_core.specs.whole_workspace.Inputs.{AreParts}
use Rattle.go_snap_core.specs.Snapshots.{IsSnapshot}
use Rattle.go_edit_core.proofs.editing.joined.Goals as goal

pub join_parts-requires : goal.join_parts-requires
join_parts-requires c = subst (λ l. AreParts l c.args.parts) (sym c.in_ok-current.ensures.same) c.requires

pub returns-clause-whole : goal.returns-clause-whole
returns-clause-whole c =
    let s = c.in-Ok.snapshot in
    subst (λ l. IsSnapshot l s.parts s.faults) (c.in-Ok.ensures.sources ∙ c.in_ok-current.ensures.same) c.sources-sources.ensures.whole
