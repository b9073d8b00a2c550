use Rattle.std.proofs.Common.{map}
use Rattle.go_query_core.specs.package_core.PackagePartParts.{file_shown}
use Rattle.go_reference_core.specs.rename.Moving.{IsMovedFile, moves_of}
use Rattle.go_reference_core.specs.rename.mirrors.Pairs.{ArePaired}
use Rattle.go_reference_core.proofs.rename.comparing.first_in_files.Given as goal

abbrev pub invariant-loop-file : goal.invariant-loop-file
invariant-loop-file l = ArePaired (IsMovedFile (moves_of l.names) l.packages l.«package») (map file_shown l.old) (map file_shown l.new) l.file
