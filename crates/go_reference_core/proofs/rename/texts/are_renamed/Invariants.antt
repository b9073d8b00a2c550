use Rattle.go_reference_core.specs.rename.Moving.{moves_of}
use Rattle.go_reference_core.specs.rename.Renaming.{IsRenamedPackage}
use Rattle.go_reference_core.specs.rename.mirrors.Pairs.{ArePaired}
use Rattle.go_reference_core.proofs.rename.texts.are_renamed.Given as goal

abbrev pub invariant-loop-package : goal.invariant-loop-package
invariant-loop-package l = ArePaired (IsRenamedPackage (moves_of l.names) l.new) l.old l.renamed l.«package»
