use Rattle.std.proofs.Common.{sym, ap, subst, ◌∙◌}
use Rattle.go_graph_core.specs.Workspaces.{IsWorkspace}
use Rattle.go_emit_core.specs.Emitted.{AreOfDifferentPackages, objects_of}
use Rattle.go_snap_core.proofs.Apart.{parts_apart}
use Rattle.go_snap_core.proofs.snapshot.Snapshot.objects.Goals as goal
use Rattle.go_emit_core.specs.package_core.PackagePartSlots.{somes}

pub emit_all-requires : goal.emit_all-requires
emit_all-requires c =
    subst (λ ps. AreOfDifferentPackages (somes ps)) (sym c.parts.ensures)
    (parts_apart c.args.self.now.sources c.args.self.now.parts (subst IsWorkspace c.sources-sources.ensures.value c.packages-packages.ensures.well) c.sources-sources.ensures.whole.made)

pub returns : goal.returns
returns c = c.in_ok-objects.ensures ∙ ap (λ ps. objects_of (somes ps)) c.parts.ensures
