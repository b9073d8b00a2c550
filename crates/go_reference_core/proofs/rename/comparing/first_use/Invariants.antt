use Rattle.go_reference_core.specs.rename.Moving.{IsMovedUse, moves_of}
use Rattle.go_reference_core.specs.rename.mirrors.Pairs.{ArePaired}
use Rattle.go_reference_core.proofs.rename.comparing.first_use.Given as goal

abbrev pub invariant-loop-number : goal.invariant-loop-number
invariant-loop-number l = ArePaired (λ _. IsMovedUse (moves_of l.names) l.packages l.«package» l.file) l.old l.new l.number
