use Rattle.std.proofs.Common.{◌≡◌, ◌||◌, ℕ, List, drop}
use Rattle.std.specs.List.{list_any}
use Rattle.go_complete_core.specs.views.Imported.{comes_to, has_path}
use Rattle.go_complete_core.proofs.views.view.add_paths.Given as goal

abbrev pub invariant-loop-import : goal.invariant-loop-import
invariant-loop-import l = (path : List ℕ) → (has_path l.paths.keys path || list_any (comes_to path) (drop l.import-index l.fn.imports)) ≡ (has_path l.fn.paths.keys path || list_any (comes_to path) l.fn.imports)
