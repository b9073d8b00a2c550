use Rattle.std.proofs.Common.{take}
use Rattle.std.specs.List.{flat_map}
use Rattle.go_tree_nodes.specs.Shapes.{shape_value_line}
use Rattle.go_decl_core.specs.Outer.{value_spec_outers}
use Rattle.go_decl_core.specs.TopDecls.{numbered, value_spec_decls}
use Rattle.go_decl_core.specs.mirrors.Listing.{Lists}
use Rattle.go_decl_core.proofs.file_places.list_value.Given as goal

abbrev pub invariant-loop-line : goal.invariant-loop-line
invariant-loop-line l = Lists l.fn.outliner (flat_map (λ line. value_spec_outers l.value.kind (shape_value_line line).0) (take l.line-index l.line-items)) (λ n. numbered (λ line. value_spec_outers l.value.kind (shape_value_line line).0) (λ n line. value_spec_decls l.value.kind n (shape_value_line line).0) n (take l.line-index l.line-items)) l.outliner
