use Rattle.std.proofs.Common.{◌++◌, take}
use Rattle.std.specs.List.{flat_map}
use Rattle.go_tree_nodes.specs.Shapes.{shape}
use Rattle.go_decl_core.specs.Outer.{expr_outers}
use Rattle.go_decl_core.specs.mirrors.Listing.{Adds}
use Rattle.go_decl_core.proofs.ListLemmas.{next_expr_outers}
use Rattle.go_decl_core.proofs.expr_places.list_exprs.Given as goal

abbrev pub invariant-loop-next : goal.invariant-loop-next
invariant-loop-next l = Adds l.fn.lister (expr_outers (shape l.exprs.first) ++ flat_map next_expr_outers (take l.next-index l.next-items)) l.lister
