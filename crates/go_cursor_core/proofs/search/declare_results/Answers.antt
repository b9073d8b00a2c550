use Rattle.std.proofs.Common.{sym, ap, ◌∙◌}
use Rattle.go_tree_nodes.specs.TypeShapes.{shape_results}
use Rattle.go_tree_nodes.proofs.TypeShapes.{listed_parts}
use Rattle.go_expr_core.specs.local_core.Outline.{result_idents}
use Rattle.go_cursor_core.proofs.States.{declares_same}
use Rattle.go_cursor_core.proofs.search.declare_results.Goals as goal

pub returns-in-Listed : goal.returns-in-Listed
returns-in-Listed c = declares_same _ _ _ _ (sym (ap (λ r. result_idents (shape_results r)) c.in-Listed.is ∙ ap result_idents (listed_parts c.in-Listed.params))) c.declare_params.ensures
