use Rattle.std.proofs.Common.{◌≡◌, take, map}
use Rattle.go_tree_nodes.specs.Shapes.{import_of}
use Rattle.go_import_core.specs.head.Heads.{spelled_in}
use Rattle.go_import_core.proofs.head.heads.same_imports.Given as goal

abbrev pub invariant-loop-place : goal.invariant-loop-place
invariant-loop-place l = map (λ i. spelled_in (import_of i).specs) (take l.place l.imports) ≡ map (λ i. spelled_in (import_of i).specs) (take l.place l.others)
