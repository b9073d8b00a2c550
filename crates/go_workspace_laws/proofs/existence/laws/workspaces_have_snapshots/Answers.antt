use Rattle.go_workspace_laws.proofs.ExistenceWhole.{workspaces_have_parts, workspaces_have_snapshots}
use Rattle.go_workspace_laws.proofs.existence.laws.workspaces_have_snapshots.Goals as goal

pub returns-clause-parts : goal.returns-clause-parts
returns-clause-parts c = workspaces_have_parts c.values_are_as_written.ensures

pub returns-clause-snapshots : goal.returns-clause-snapshots
returns-clause-snapshots c = workspaces_have_snapshots c.values_are_as_written.ensures c.check_is_local.ensures c.imports_bind_theirs.ensures
