use Rattle.go_reference_core.specs.rename.Moving.{moves_of}
use Rattle.go_reference_core.specs.rename.Renaming.{IsRenamedFile}
use Rattle.go_reference_core.specs.rename.mirrors.Pairs.{ArePaired}
use Rattle.go_reference_core.proofs.rename.texts.are_renamed_files.Given as goal

abbrev pub invariant-loop-file : goal.invariant-loop-file
invariant-loop-file l = ArePaired (IsRenamedFile (moves_of l.names) l.new l.«package») l.own l.its l.file
