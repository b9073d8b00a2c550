use Rattle.std.proofs.Common.{subst}
use Rattle.go_snap_core.specs.Faults.{AreFaults}
use Rattle.go_snap_core.specs.Snapshots.{contents_of}
use Rattle.go_snap_core.proofs.snapshot.join_parts.Goals as goal

pub new-requires : goal.new-requires
new-requires c =
    let ps = c.args.workspace in
    let parts = c.args.parts in
    let whole = c.parts_are_whole.ensures ps parts c.packages-packages.ensures.well c.requires in
    record { made = c.requires; whole = whole.0; is_whole = whole.1; parts_are = whole.2; faults_are = subst (λ l. AreFaults ps (contents_of l) c.in-Ok.faults.items) c.as_slice.ensures c.in-Ok.ensures }
