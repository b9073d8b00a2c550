use Rattle.std.proofs.Common.{◌≡◌, ap, sym, ◌∙◌}
use Rattle.go_tree_nodes.specs.Shapes.{shape_values}
use Rattle.go_value_core.specs.mirrors.Own.{is_alone}
use Rattle.go_value_core.proofs.Owning.{is_single}
use Rattle.go_value_core.proofs.specs.is_alone.Goals as goal

pub returns-in-Some : goal.returns-in-Some
returns-in-Some c =
    let es = c.in-Some.values.exprs in
    is_single c.len.result es.first es.more.items (c.len.ensures ∙ es.more.ok.0) ∙ sym (ap (λ v. is_alone (shape_values v)) c.in-Some.is)
