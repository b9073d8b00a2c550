use Rattle.std.proofs.Common.{nat_lt, sym, ap, ◌∙◌}
use Rattle.go_tree_nodes.specs.declared.types.Params.{out-Params}
use Rattle.go_tree_nodes.specs.TypeShapes.{shape_results}
use Rattle.go_body_core.specs.Ends.{has_result}
use Rattle.go_body_core.proofs.Listed.{len_as_list, listed_some}
use Rattle.go_body_core.proofs.ends.has_result.Goals as goal

pub returns-in-Listed : goal.returns-in-Listed
returns-in-Listed c =
    ap (nat_lt 0) (len_as_list (out-Params c.in-Listed.params).entries c.len.result c.len.ensures) ∙ sym (ap (λ r. has_result (shape_results r)) c.in-Listed.is ∙ listed_some c.in-Listed.params)
