use Rattle.go_snap_core.proofs.Apart.{parts_apart}
use Rattle.go_workspace_laws.proofs.Objects.{declared_there}
use Rattle.go_workspace_laws.proofs.object_laws.declarations_are_reached.Goals as goal

pub returns : goal.returns
returns c ps parts faults well snapshot = declared_there c.check_is_local.ensures c.imports_bind_theirs.ensures ps parts well snapshot.made (parts_apart ps parts well snapshot.made)
