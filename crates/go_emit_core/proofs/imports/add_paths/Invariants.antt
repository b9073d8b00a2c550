use Rattle.std.proofs.Common.{◌≡◌, ◌++◌, drop}
use Rattle.std.specs.List.{flat_map}
use Rattle.go_emit_core.specs.Imports.{imported_paths}
use Rattle.go_emit_core.proofs.imports.add_paths.Given as goal

abbrev pub invariant-loop-import : goal.invariant-loop-import
invariant-loop-import l = l.fn.paths.items ++ flat_map imported_paths l.imports ≡ l.paths.items ++ flat_map imported_paths (drop l.import-index l.imports)
