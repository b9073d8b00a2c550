use Rattle.std.proofs.Common.{◌++◌, map, ap, sym, ◌∙◌}
use Rattle.std.proofs.lemmas.Result.{on_ok_weaker}
use Rattle.go_tree_nodes.specs.Trees.{TypeTree}
use Rattle.go_tree_nodes.specs.TypeShapes.{shape_type}
use Rattle.go_tree_nodes.proofs.TypeShapes.{shape_interface, shape_struct}
use Rattle.go_reference_core.specs.outline.Outlines.{entry_shown, members_of}
use Rattle.go_reference_core.proofs.outline.members.add_members.Goals as goal

pub returns-in-Struct : goal.returns-in-Struct
returns-in-Struct c =
    let w = c.in-Struct in
    let first = map entry_shown c.args.entries.now.items in
    on_ok_weaker c.add_struct.result (λ e. e ∙ ap (λ (t : TypeTree). first ++ members_of t) (sym (ap shape_type w.is ∙ shape_struct w.field-0 w.field-1 w.lines w.close))) c.add_struct.ensures

pub returns-in-Interface : goal.returns-in-Interface
returns-in-Interface c =
    let w = c.in-Interface in
    let first = map entry_shown c.args.entries.now.items in
    on_ok_weaker c.add_interface.result (λ e. e ∙ ap (λ (t : TypeTree). first ++ members_of t) (sym (ap shape_type w.is ∙ shape_interface w.field-0 w.field-1 w.lines w.close))) c.add_interface.ensures
