use Rattle.go_tree_nodes.specs.Shapes.{top_of}
use Rattle.go_tree_nodes.specs.Trees.{TopTree}
use Rattle.go_package_core.proofs.PrepareLists.{seen_holds}
use Rattle.test_snapshot.specs.Functions.{IsPlacedDecl}
use Rattle.test_snapshot.proofs.branches.functions.compare_decls.Goals as goal

pub compare_decl-requires-clause-placed : goal.compare_decl-requires-clause-placed
compare_decl-requires-clause-placed g c κs within =
    seen_holds (λ (t : TopTree). IsPlacedDecl t.decl) top_of c.args.decls.now c.loop-top.top-index c.top-item.result c.requires.placed c.loop-top-test.true c.top-item.is
