use Rattle.go_reference_core.specs.rename.Moving.{IsMovedPart, moves_of}
use Rattle.go_reference_core.specs.rename.mirrors.Pairs.{ArePaired}
use Rattle.go_reference_core.proofs.rename.comparing.first_in_parts.Given as goal

abbrev pub invariant-loop-package : goal.invariant-loop-package
invariant-loop-package l = ArePaired (IsMovedPart (moves_of l.names) l.packages) l.old l.new l.«package»
