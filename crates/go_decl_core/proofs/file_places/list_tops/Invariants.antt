use Rattle.std.proofs.Common.{take}
use Rattle.std.specs.List.{flat_map}
use Rattle.go_tree_nodes.specs.Shapes.{decl_of}
use Rattle.go_decl_core.specs.Outer.{decl_outers}
use Rattle.go_decl_core.specs.TopDecls.{numbered, decl_decls}
use Rattle.go_decl_core.specs.mirrors.Listing.{Lists}
use Rattle.go_decl_core.proofs.file_places.list_tops.Given as goal

abbrev pub invariant-loop-top : goal.invariant-loop-top
invariant-loop-top l = Lists l.fn.outliner (flat_map (λ top. decl_outers (decl_of top.decl)) (take l.top-index l.top-items)) (λ n. numbered (λ top. decl_outers (decl_of top.decl)) (λ n top. decl_decls n (decl_of top.decl)) n (take l.top-index l.top-items)) l.outliner
