use Rattle.std.proofs.Common.{sym, ap}
use Rattle.go_tree_nodes.proofs.ShapeLemmas.{block_form}
use Rattle.go_local_core.proofs.WalksEndLemmas.{loop_is}
use Rattle.go_branch_core.specs.Quiet.{is_quiet}
use Rattle.go_branch_core.proofs.halves.is_quiet.Goals as goal

pub returns-in-Block : goal.returns-in-Block
returns-in-Block c = sym (ap is_quiet (block_form c.args.stmt.now _ _ _ c.in-Block.is))

pub returns-in-For : goal.returns-in-For
returns-in-For c = sym (ap is_quiet (loop_is c.args.stmt.now _ c.in-For.is))
