use Rattle.std.proofs.Common.{◌++◌, map, ap, sym, ◌∙◌}
use Rattle.std.proofs.lemmas.Result.{on_ok_weaker}
use Rattle.go_tree_nodes.specs.declared.decls.ValueSpecs.{ValueSpecs}
use Rattle.go_tree_nodes.specs.Shapes.{shape_value_specs}
use Rattle.go_reference_core.specs.outline.Outlines.{entry_shown, first_ident, specs_entries, value_spec_entries}
use Rattle.go_reference_core.proofs.OutlineListed.{value_lines_list}
use Rattle.go_reference_core.proofs.outline.tops.add_values.Goals as goal

pub returns-in-One : goal.returns-in-One
returns-in-One c =
    let first = map entry_shown c.args.entries.now.items in
    let d = c.args.decl.now in
    on_ok_weaker c.add_value.result (λ e. e ∙ ap (λ (s : ValueSpecs). first ++ specs_entries (value_spec_entries d.kind) (λ v. (first_ident v.names).span.start) d.keyword.start c.args.end (shape_value_specs s)) (sym c.in-One.is)) c.add_value.ensures

pub returns-in-Group : goal.returns-in-Group
returns-in-Group c =
    let first = map entry_shown c.args.entries.now.items in
    let d = c.args.decl.now in
    on_ok_weaker c.add_value_lines.result
    (λ e. e ∙ (ap (λ l. first ++ l) (value_lines_list d.kind c.in-Group.close.start c.in-Group.lines.items) ∙ ap (λ (s : ValueSpecs). first ++ specs_entries (value_spec_entries d.kind) (λ v. (first_ident v.names).span.start) d.keyword.start c.args.end (shape_value_specs s)) (sym c.in-Group.is)))
    c.add_value_lines.ensures
