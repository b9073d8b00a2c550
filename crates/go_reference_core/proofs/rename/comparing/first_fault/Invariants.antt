use Rattle.go_reference_core.specs.rename.Moving.{IsMovedFault, moves_of}
use Rattle.go_reference_core.specs.rename.mirrors.Pairs.{ArePaired}
use Rattle.go_reference_core.proofs.rename.comparing.first_fault.Given as goal

abbrev pub invariant-loop-number : goal.invariant-loop-number
invariant-loop-number l = ArePaired (λ _. IsMovedFault (moves_of l.names)) l.old l.new l.number
