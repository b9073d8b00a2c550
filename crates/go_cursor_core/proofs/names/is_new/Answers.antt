use Rattle.std.proofs.Common.{◌-◌, length, take, drop, sym, ap, ◌∙◌}
use Rattle.std.specs.List.{list_any}
use Rattle.std.specs.Str.{bytes_eq}
use Rattle.go_tree_nodes.specs.text_core.Text.{is_blank}
use Rattle.go_cursor_core.specs.Shown.{idents_shown}
use Rattle.go_cursor_core.proofs.NameLists.{tail_slice, new_by}
use Rattle.go_cursor_core.proofs.names.is_new.Goals as goal

pub returns-then-not-is_blank : goal.returns-then-not-is_blank
returns-then-not-is_blank c =
    let xs = c.args.names.now in
    let n = c.args.outer in
    let x = c.args.ident.now in
    new_by n xs x c.has_name.result (sym (c.is_blank.ensures ∙ ap is_blank c.as_str-name.ensures) ∙ c.if-not-is_blank.true)
    (c.has_name.ensures
    ∙ (ap (λ m. list_any (λ y. bytes_eq m y.name) (idents_shown (take (length xs - n) (drop n xs)))) c.as_str-name.ensures ∙ ap (λ l. list_any (λ y. bytes_eq x.name y.name) (idents_shown l)) (tail_slice n xs)))
