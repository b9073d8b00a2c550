use Rattle.go_reference_core.specs.rename.Moving.{IsSamePath}
use Rattle.go_reference_core.specs.rename.mirrors.Pairs.{ArePaired}
use Rattle.go_reference_core.proofs.rename.comparing.first_path.Given as goal

abbrev pub invariant-loop-package : goal.invariant-loop-package
invariant-loop-package l = ArePaired IsSamePath l.old l.new l.«package»
