use Rattle.std.proofs.Common.{◌≡◌, ◌||◌, ℕ, List, drop, map}
use Rattle.go_names_core.specs.block_core.Naming.{imported_in}
use Rattle.go_complete_core.specs.views.Imported.{has_path, is_imported}
use Rattle.go_complete_core.proofs.views.view.imported_paths.Given as goal

abbrev pub invariant-loop-imports : goal.invariant-loop-imports
invariant-loop-imports l = (path : List ℕ) → (has_path l.paths.keys path || is_imported (map imported_in (drop l.imports-index l.files)) path) ≡ is_imported (map imported_in l.fn.files) path
