use Rattle.std.proofs.Common.{◌≡◌, drop}
use Rattle.go_value_core.specs.mirrors.Flags.{has_own_rank}
use Rattle.go_value_core.proofs.back.has_own_rank.Given as goal

abbrev pub invariant-loop-needed : goal.invariant-loop-needed
invariant-loop-needed l = has_own_rank l.ranks l.node (drop l.needed-index l.row) ≡ has_own_rank l.ranks l.node l.row
