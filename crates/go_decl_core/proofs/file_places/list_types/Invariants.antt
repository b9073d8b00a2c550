use Rattle.std.proofs.Common.{take}
use Rattle.std.specs.List.{flat_map}
use Rattle.go_tree_nodes.specs.Shapes.{shape_type_line}
use Rattle.go_decl_core.specs.Outer.{type_spec_outers}
use Rattle.go_decl_core.specs.TopDecls.{numbered, type_spec_decls}
use Rattle.go_decl_core.specs.mirrors.Listing.{Lists}
use Rattle.go_decl_core.proofs.file_places.list_types.Given as goal

abbrev pub invariant-loop-line : goal.invariant-loop-line
invariant-loop-line l = Lists l.fn.outliner (flat_map (λ line. type_spec_outers (shape_type_line line).0) (take l.line-index l.line-items)) (λ n. numbered (λ line. type_spec_outers (shape_type_line line).0) (λ n line. type_spec_decls n (shape_type_line line).0) n (take l.line-index l.line-items)) l.outliner
