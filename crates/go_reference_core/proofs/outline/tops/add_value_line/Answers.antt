use Rattle.std.proofs.Common.{ℕ, ◌++◌, map, ap, sym, ◌∙◌}
use Rattle.std.proofs.lemmas.Result.{on_ok_weaker}
use Rattle.go_tree_nodes.specs.declared.names.Ident.{Ident}
use Rattle.go_tree_nodes.specs.Shapes.{shape_value_spec}
use Rattle.go_reference_core.specs.outline.Outlines.{entry_shown, first_ident, value_spec_entries}
use Rattle.go_reference_core.proofs.OutlineListed.{first_of}
use Rattle.go_reference_core.proofs.outline.tops.add_value_line.Goals as goal

pub returns : goal.returns
returns c =
    let first = map entry_shown c.args.entries.now.items in
    let kind = c.args.kind in
    let v = c.args.line.now.spec in
    let end = c.line_end-end.result in
    on_ok_weaker c.add_value.result
    (λ e. e ∙ (ap (λ (x : Ident). first ++ value_spec_entries kind x.span.start end (shape_value_spec v)) (sym (first_of v.names.first v.names.more.items)) ∙ ap (λ (n : ℕ). first ++ value_spec_entries kind (first_ident (shape_value_spec v).names).span.start n (shape_value_spec v)) c.line_end-end.ensures))
    c.add_value.ensures
