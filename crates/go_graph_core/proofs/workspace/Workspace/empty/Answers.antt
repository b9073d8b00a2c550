use Rattle.std.proofs.Common.{sym, subst}
use Rattle.go_graph_core.specs.Workspaces.{IsReadWorkspace}
use Rattle.go_graph_core.proofs.Places.{none_read}
use Rattle.go_graph_core.proofs.workspace.Workspace.empty.Goals as goal

pub invariant_of-result : goal.invariant_of-result
invariant_of-result c = subst IsReadWorkspace (sym c.new.ensures.items) none_read
