use Rattle.std.proofs.Common.{All, take}
use Rattle.go_digraph_core.specs.needs.mirrors.Filling.{IsThere}
use Rattle.go_digraph_core.proofs.needs.table.first_missing.Given as goal

abbrev pub invariant-loop-needed : goal.invariant-loop-needed
invariant-loop-needed g l = All (IsThere l.ranks l.table l.node) (take l.needed-index l.row)
