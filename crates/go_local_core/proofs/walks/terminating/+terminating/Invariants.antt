use Rattle.std.proofs.Common.{◌≡◌, drop}
use Rattle.go_tree_nodes.specs.Shapes.{lines_of}
use Rattle.go_local_core.specs.walks.Ends.{are_terminating}
use Rattle.go_local_core.proofs.WalksTerminatingLemmas.{ends_with}
use Rattle.go_local_core.proofs.walks.terminating.+terminating.Given as goal

abbrev pub invariant-are_terminating-loop-line : goal.invariant-are_terminating-loop-line
invariant-are_terminating-loop-line g l = ends_with (g.P.Panics.panics l.calls) l.ends (lines_of (drop l.line-index l.line-items)) ≡ are_terminating (g.P.Panics.panics l.calls) (lines_of l.line-items)
