use Rattle.std.proofs.Common.{◌≡◌, drop, map}
use Rattle.go_package_core.specs.package_part.Parts.{file_shown}
use Rattle.go_emit_core.specs.Emitted.{are_clean}
use Rattle.go_emit_core.proofs.object.are_clean.Given as goal

abbrev pub invariant-loop-file : goal.invariant-loop-file
invariant-loop-file l = are_clean (map file_shown (drop l.file-index l.files)) ≡ are_clean (map file_shown l.files)
