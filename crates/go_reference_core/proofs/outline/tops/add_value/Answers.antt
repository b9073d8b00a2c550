use Rattle.std.proofs.Common.{false, ◌++◌, map, ap, ◌∙◌}
use Rattle.std.proofs.lemmas.Result.{on_ok_weaker}
use Rattle.go_tree_nodes.specs.TypeShapes.{shape_idents}
use Rattle.go_reference_core.specs.declared.outline.items.EntryKind.{EntryKind}
use Rattle.go_reference_core.specs.outline.Outlines.{entry_shown, idents_entries}
use Rattle.go_reference_core.proofs.outline.tops.add_value.Goals as goal

pub returns : goal.returns
returns c =
    let first = map entry_shown c.args.entries.now.items in
    let p = c.args.part in
    on_ok_weaker c.add_names.result (λ e. e ∙ ap (λ (k : EntryKind). first ++ idents_entries k false p.start p.end (shape_idents c.args.spec.now.names)) c.kind_of_value.ensures) c.add_names.ensures
