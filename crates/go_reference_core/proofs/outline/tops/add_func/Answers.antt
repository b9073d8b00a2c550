use Rattle.std.proofs.Common.{false, ◌++◌, ◌∷◌, [], map, ap, ◌∙◌}
use Rattle.std.proofs.lemmas.Result.{on_ok_weaker}
use Rattle.go_reference_core.specs.declared.outline.items.EntryKind.{EntryKind}
use Rattle.go_reference_core.specs.outline.Outlines.{entry, entry_shown}
use Rattle.go_reference_core.proofs.outline.tops.add_func.Goals as goal

pub returns : goal.returns
returns c =
    let first = map entry_shown c.args.entries.now.items in
    let f = c.args.func.now in
    on_ok_weaker c.put.result (λ e. e ∙ ap (λ (k : EntryKind). first ++ entry f.name k false f.func.start c.args.end f.open_brace.start ∷ []) c.kind_of_func-kind.ensures) c.put.ensures
