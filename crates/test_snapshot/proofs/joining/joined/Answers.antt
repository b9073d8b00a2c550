use Rattle.std.proofs.Common.{All, sym, ap, subst, ◌∙◌, reverse}
use Rattle.go_site_core.specs.graph_core.Workspaces.{IsWorkspace}
use Rattle.test_snapshot.proofs.Fitting.{IfPlaced, are_parts_of, parts_are_placed}
use Rattle.test_snapshot.proofs.joining.joined.Goals as goal
use Rattle.go_emit_core.specs.package_core.PackagePartSlots.{somes}

pub made_anew-requires : goal.made_anew-requires
made_anew-requires c =
    let s = c.args.snapshot.now in
    let well = subst IsWorkspace c.sources-sources.ensures.value c.packages-packages.ensures.well in
    subst (λ l. All IfPlaced l) (sym c.parts.ensures) (parts_are_placed s.sources s.parts c.sources-sources.ensures.whole.made well)

pub join-requires : goal.join-requires
join-requires c =
    let s = c.args.snapshot.now in
    are_parts_of s.sources c.in_ok-workspace.workspace s.parts c.in_ok-parts.parts.items c.sources-sources.ensures.whole.made (c.in_ok-workspace.ensures.same ∙ c.sources-sources.ensures.value) (c.in_ok-parts.ensures ∙ ap (λ l. reverse (somes l)) c.parts.ensures)
