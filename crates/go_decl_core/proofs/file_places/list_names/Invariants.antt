use Rattle.std.proofs.Common.{take}
use Rattle.go_tree_nodes.specs.Shapes.{shape_value_spec}
use Rattle.go_tree_nodes.specs.TypeShapes.{idents_from}
use Rattle.go_decl_core.specs.Outer.{Whole, idents_outers, kind_of_value}
use Rattle.go_decl_core.specs.TopDecls.{named_decls}
use Rattle.go_decl_core.specs.mirrors.Listing.{Lists}
use Rattle.go_decl_core.proofs.file_places.list_names.Given as goal

abbrev pub invariant-loop-before : goal.invariant-loop-before
invariant-loop-before l =
    Lists l.fn.outliner (idents_outers (kind_of_value l.kind) Whole (idents_from l.spec.names.first (take l.before l.next-items))) (λ n. named_decls l.kind (shape_value_spec l.spec) n 0 (idents_from l.spec.names.first (take l.before l.next-items))) l.outliner
