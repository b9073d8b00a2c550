use Rattle.std.proofs.Common.{sym, ap}
use Rattle.go_tree_nodes.specs.Counts.{is_empty}
use Rattle.go_local_core.proofs.WalksEndLemmas.{loop_is}
use Rattle.go_local_core.proofs.walks.terminating.is_empty.Goals as goal

pub returns-in-For : goal.returns-in-For
returns-in-For c = sym (ap is_empty (loop_is c.args.stmt.now _ c.in-For.is))
