use Rattle.std.proofs.Common.{◌≡◌, length}
use Rattle.go_graph_core.specs.collections_core.PersistentListStaying.{StaysWhere}
use Rattle.go_submit_core.proofs.history.lists.staying_faults.Given as goal

abbrev pub invariant-loop-fault : goal.invariant-loop-fault
invariant-loop-fault l = (length l.same.items ≡ l.fault-index) × StaysWhere l.earlier l.faults l.same.items
