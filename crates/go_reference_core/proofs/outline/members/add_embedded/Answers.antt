use Rattle.std.proofs.Common.{true, ◌++◌, ◌∷◌, [], map, ap, ◌∙◌}
use Rattle.std.proofs.lemmas.Result.{on_ok_weaker}
use Rattle.go_tree_nodes.specs.declared.names.Ident.{Ident}
use Rattle.go_reference_core.specs.declared.outline.items.EntryKind.TheVariants as kinds
use Rattle.go_reference_core.specs.outline.Outlines.{EntryTree, entry, entry_shown}
use Rattle.go_reference_core.proofs.outline.members.add_embedded.Goals as goal

pub returns : goal.returns
returns c =
    let first = map entry_shown c.args.entries.now.items in
    let end = c.args.end in
    on_ok_weaker c.put.result
    (λ e. e ∙ (ap (λ (x : EntryTree). first ++ x ∷ []) c.named.ensures ∙ ap (λ (x : Ident). first ++ entry x kinds.Field true x.span.start end end ∷ []) c.last_ident-ident.ensures))
    c.put.ensures
