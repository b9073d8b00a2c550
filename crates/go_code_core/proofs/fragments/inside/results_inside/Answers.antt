use Rattle.std.proofs.Common.{sym, ap, ◌∙◌}
use Rattle.go_tree_nodes.specs.TypeShapes.{shape_results}
use Rattle.go_tree_nodes.proofs.TypeShapes.{listed_parts}
use Rattle.go_code_core.specs.fragments.Inside.{results_inside}
use Rattle.go_code_core.proofs.fragments.inside.results_inside.Goals as goal

pub returns-in-Listed : goal.returns-in-Listed
returns-in-Listed g c = c.listed_result_inside.ensures ∙ ap (results_inside (g.N.CodeNames.looks c.args.names.now)) (sym (ap shape_results c.in-Listed.is ∙ listed_parts c.in-Listed.params))
