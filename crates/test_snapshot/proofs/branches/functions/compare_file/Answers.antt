use Rattle.std.proofs.Common.{map, sym, subst}
use Rattle.go_tree_nodes.specs.Shapes.{file_of, top_of}
use Rattle.go_site_core.specs.graph_core.Sources.{IsPlacedContent}
use Rattle.test_snapshot.specs.Functions.{ArePlacedTops}
use Rattle.test_snapshot.proofs.FunctionsPlaced.{decls_placed}
use Rattle.test_snapshot.proofs.branches.functions.compare_file.Goals as goal

pub compare_decls-requires-clause-placed : goal.compare_decls-requires-clause-placed
compare_decls-requires-clause-placed g c κs within =
    let tree = c.in-Ok.tree in
    subst (λ ds. ArePlacedTops (map top_of ds)) (sym c.deref.ensures.value) (decls_placed (file_of tree.now) (subst IsPlacedContent (sym c.in-Ok.ensures.value) c.in-Ok.ensures.placed))
