use Rattle.std.proofs.Common.{true, ◌++◌, map, ap, sym, ◌∙◌}
use Rattle.std.proofs.lemmas.Result.{on_ok_weaker}
use Rattle.go_tree_nodes.specs.declared.names.Ident.{Ident}
use Rattle.go_tree_nodes.specs.declared.types.Fields.{Fields}
use Rattle.go_tree_nodes.specs.TypeShapes.{shape_idents}
use Rattle.go_reference_core.specs.declared.outline.items.EntryKind.TheVariants as kinds
use Rattle.go_reference_core.specs.outline.Outlines.{entry_shown, field_entries, idents_entries}
use Rattle.go_reference_core.proofs.OutlineListed.{first_of}
use Rattle.go_reference_core.proofs.outline.members.add_fields.Goals as goal

pub returns-in-Named : goal.returns-in-Named
returns-in-Named c =
    let first = map entry_shown c.args.entries.now.items in
    let xs = c.in-Named.idents in
    on_ok_weaker c.add_names.result
    (λ e. e ∙ (ap (λ (x : Ident). first ++ idents_entries kinds.Field true x.span.start c.args.end (shape_idents xs)) (sym (first_of xs.first xs.more.items)) ∙ ap (λ (f : Fields). first ++ field_entries f c.args.end) (sym c.in-Named.is)))
    c.add_names.ensures

pub returns-in-Embedded : goal.returns-in-Embedded
returns-in-Embedded c =
    let first = map entry_shown c.args.entries.now.items in
    on_ok_weaker c.add_embedded.result (λ e. e ∙ ap (λ (f : Fields). first ++ field_entries f c.args.end) (sym c.in-Embedded.is)) c.add_embedded.ensures
