use Rattle.std.proofs.Common.{◌≡◌, ◌++◌, drop, map}
use Rattle.go_declared_core.specs.block_core.Naming.{imported_in}
use Rattle.go_emit_core.specs.Imports.{all_passing}
use Rattle.go_emit_core.proofs.imports.passing_of.Given as goal

abbrev pub invariant-loop-file : goal.invariant-loop-file
invariant-loop-file l = l.paths.items ++ all_passing (map imported_in (drop l.file-index l.imports)) ≡ all_passing (map imported_in l.imports)
