use Rattle.std.proofs.Common.{ap, ◌∙◌, arith}
use Rattle.std.proofs.lemmas.Grind.{common_steps}
use Rattle.go_tree_nodes.specs.TypeShapes.{shape_results}
use Rattle.go_block_core.specs.Declarations.{without_results}
use Rattle.go_block_core.proofs.DeclLemmas.{no_results_listed}
use Rattle.go_block_core.proofs.decls.is_without_results.Goals as goal

pub returns-in-Listed : goal.returns-in-Listed
returns-in-Listed c =
    let e = ap (λ r. without_results (shape_results r)) c.in-Listed.is ∙ no_results_listed c.in-Listed.results in
    grind (arith, common_steps, e)
