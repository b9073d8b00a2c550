use Rattle.std.proofs.Common.{ℕ, ◌++◌, map, ap, ◌∙◌}
use Rattle.std.proofs.lemmas.Result.{on_ok_weaker}
use Rattle.go_tree_nodes.specs.Shapes.{shape_type_spec}
use Rattle.go_reference_core.specs.outline.Outlines.{entry_shown, type_spec_entries}
use Rattle.go_reference_core.proofs.outline.tops.add_type_line.Goals as goal

pub returns : goal.returns
returns c =
    let first = map entry_shown c.args.entries.now.items in
    let t = c.args.line.now.spec in
    on_ok_weaker c.add_type.result (λ e. e ∙ ap (λ (n : ℕ). first ++ type_spec_entries t.name.span.start n (shape_type_spec t)) c.line_end-end.ensures) c.add_type.ensures
