use Rattle.std.proofs.Common.{subst}
use Rattle.go_tree_nodes.specs.Shapes.{decl_of}
use Rattle.test_snapshot.specs.Functions.{IsPlacedDecl}
use Rattle.test_snapshot.proofs.branches.functions.compare_decl.Goals as goal

pub compare_func-requires-clause-placed : goal.compare_func-requires-clause-placed
compare_func-requires-clause-placed g c κs within = subst (λ d. IsPlacedDecl (decl_of d)) c.in-Func.is c.requires.placed
