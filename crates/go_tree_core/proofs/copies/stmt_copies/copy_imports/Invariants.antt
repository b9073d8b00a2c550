use Rattle.std.proofs.Common.{◌≡◌, map, take}
use Rattle.go_tree_nodes.specs.Shapes.{import_of}
use Rattle.go_tree_core.specs.copies.Respelled.{spelled, import_with}
use Rattle.go_tree_core.proofs.copies.stmt_copies.copy_imports.Given as goal

abbrev pub invariant-loop-import : goal.invariant-loop-import
invariant-loop-import l = map import_of l.copies.items ≡ map (λ x. import_with (spelled l.copier) (import_of x)) (take l.import-index l.import-items)
