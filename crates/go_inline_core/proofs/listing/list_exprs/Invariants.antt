use Rattle.std.proofs.Common.{◌++◌, take}
use Rattle.std.specs.List.{flat_map}
use Rattle.go_tree_nodes.specs.Shapes.{shape}
use Rattle.go_tree_nodes.specs.WrittenTypes.{expr_types}
use Rattle.go_inline_core.specs.mirrors.Listing.{Lists}
use Rattle.go_inline_core.proofs.WalkLemmas.{next_types}
use Rattle.go_inline_core.proofs.listing.list_exprs.Given as goal

abbrev pub invariant-loop-next : goal.invariant-loop-next
invariant-loop-next l = Lists l.fn.list (expr_types (shape l.exprs.first) ++ flat_map next_types (take l.next-index l.next-items)) l.list
