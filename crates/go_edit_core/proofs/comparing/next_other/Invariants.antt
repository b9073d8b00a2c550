use Rattle.go_edit_core.specs.mirrors.Comparing.{AreSameFrom}
use Rattle.go_edit_core.proofs.comparing.next_other.Given as goal

abbrev pub invariant-loop-number : goal.invariant-loop-number
invariant-loop-number l = AreSameFrom l.packages l.others l.from l.number
