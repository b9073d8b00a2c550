use Rattle.std.proofs.Common.{ℕ, ◌++◌, ◌∷◌, [], map, ap, sym, ◌∙◌}
use Rattle.std.proofs.lemmas.Result.{on_ok_weaker}
use Rattle.go_reference_core.specs.outline.Outlines.{EntryTree, entry_shown}
use Rattle.go_reference_core.proofs.OutlineListed.{method_entry, method_has}
use Rattle.go_reference_core.proofs.outline.members.add_method.Goals as goal

pub returns : goal.returns
returns c =
    let first = map entry_shown c.args.entries.now.items in
    let m = c.args.line.now in
    on_ok_weaker c.put.result
    (λ e. e ∙ (ap (λ (x : EntryTree). first ++ x ∷ []) c.named.ensures ∙ (ap (λ (n : ℕ). first ++ method_entry m n ∷ []) c.line_end-end.ensures ∙ ap (λ l. first ++ l) (sym (method_has c.args.end m)))))
    c.put.ensures
