use Rattle.std.proofs.Common.{◌++◌, map, ap, sym, ◌∙◌}
use Rattle.std.proofs.lemmas.Result.{on_ok_weaker}
use Rattle.go_tree_nodes.specs.declared.decls.TypeSpecs.{TypeSpecs}
use Rattle.go_tree_nodes.specs.Shapes.{shape_type_specs}
use Rattle.go_reference_core.specs.outline.Outlines.{entry_shown, specs_entries, type_spec_entries}
use Rattle.go_reference_core.proofs.OutlineListed.{type_lines_list}
use Rattle.go_reference_core.proofs.outline.tops.add_types.Goals as goal

pub returns-in-One : goal.returns-in-One
returns-in-One c =
    let first = map entry_shown c.args.entries.now.items in
    let d = c.args.decl.now in
    on_ok_weaker c.add_type.result (λ e. e ∙ ap (λ (s : TypeSpecs). first ++ specs_entries type_spec_entries (λ t. t.name.span.start) d.keyword.start c.args.end (shape_type_specs s)) (sym c.in-One.is)) c.add_type.ensures

pub returns-in-Group : goal.returns-in-Group
returns-in-Group c =
    let first = map entry_shown c.args.entries.now.items in
    let d = c.args.decl.now in
    on_ok_weaker c.add_type_lines.result
    (λ e. e ∙ (ap (λ l. first ++ l) (type_lines_list c.in-Group.close.start c.in-Group.lines.items) ∙ ap (λ (s : TypeSpecs). first ++ specs_entries type_spec_entries (λ t. t.name.span.start) d.keyword.start c.args.end (shape_type_specs s)) (sym c.in-Group.is)))
    c.add_type_lines.ensures
