use Rattle.std.proofs.Common.{IsOk, arith}
use Rattle.std.proofs.lemmas.Grind.{common_steps}
use Rattle.go_tree_nodes.specs.Shapes.{file_of}
use Rattle.go_decl_core.proofs.Order.{listed_rise}
use Rattle.go_decl_core.proofs.file_places.outline.Goals as goal

-- the places of the whole file rise
pub invariant_of-result : goal.invariant_of-result
invariant_of-result c =
    let ok : IsOk c.list_tops.new.outliner.lister.outcome = grind (arith, common_steps, c.in_ok-outliner.was) in
    listed_rise (file_of c.args.tree.now) c.new.result.places.items c.list_tops.new.outliner.lister.places.items c.requires c.new.ensures.places (c.list_tops.ensures ok).1
