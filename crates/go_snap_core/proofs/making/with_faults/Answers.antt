use Rattle.std.proofs.Common.{subst}
use Rattle.go_snap_core.proofs.WholeWorkspacePartsWhole.{parts_are_whole}
use Rattle.go_snap_core.specs.Snapshots.{contents_of}
use Rattle.go_snap_core.specs.Faults.{AreFaults}
use Rattle.go_snap_core.proofs.making.with_faults.Goals as goal

pub returns-clause-whole : goal.returns-clause-whole
returns-clause-whole c =
    let ps = c.args.workspace.now in
    let parts = c.args.parts in
    let whole = parts_are_whole c.check_is_local.ensures c.imports_bind_theirs.ensures ps parts c.requires.well c.requires.parts in
    record { made = c.requires.parts; whole = whole.0; is_whole = whole.1; parts_are = whole.2; faults_are = subst (λ l. AreFaults ps (contents_of l) c.in_ok-faults.faults.items) c.as_slice.ensures c.in_ok-faults.ensures }
