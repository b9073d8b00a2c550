use Rattle.go_exists_laws.proofs.Ones.{one_of_texts, one_of_workspace}
use Rattle.go_exists_laws.proofs.laws.each_workspace_has_one_snapshot.Goals as goal

pub returns-clause-workspaces : goal.returns-clause-workspaces
returns-clause-workspaces c = one_of_workspace c.workspaces_have_snapshots.ensures.snapshots c.one_worker.ensures

pub returns-clause-texts : goal.returns-clause-texts
returns-clause-texts c = one_of_texts c.workspaces_have_snapshots.ensures.snapshots
