use Rattle.std.proofs.Common.{Bool, ◌||◌, ◌+◌, drop, sym, ap, ◌∙◌}
use Rattle.std.specs.List.{list_any}
use Rattle.std.specs.Str.{bytes_eq}
use Rattle.go_cursor_core.specs.Shown.{idents_shown}
use Rattle.go_tree_nodes.specs.declared.names.Ident.{Ident}
use Rattle.go_cursor_core.proofs.NameLists.{any_at}
use Rattle.go_cursor_core.proofs.names.has_name.Goals as goal

pub returns-then-eq : goal.returns-then-eq
returns-then-eq c =
    let p : Ident → Bool = λ y. bytes_eq c.args.name.now y.name in
    sym (c.loop-ident.invariant ∙ (any_at p c.args.idents.now c.loop-ident.ident-index c.ident-item.result c.loop-ident-test.true c.ident-item.is ∙ ap (λ b. b || list_any p (idents_shown (drop (c.loop-ident.ident-index + 1) c.args.idents.now))) (ap (bytes_eq c.args.name.now) (sym c.as_str.ensures) ∙ (sym c.eq.ensures ∙ c.if-eq.true))))

pub loop-ident-preserved : goal.loop-ident-preserved
loop-ident-preserved c =
    let p : Ident → Bool = λ y. bytes_eq c.args.name.now y.name in
    c.loop-ident.invariant ∙ (any_at p c.args.idents.now c.loop-ident.ident-index c.ident-item.result c.loop-ident-test.true c.ident-item.is ∙ ap (λ b. b || list_any p (idents_shown (drop (c.loop-ident.ident-index + 1) c.args.idents.now))) (ap (bytes_eq c.args.name.now) (sym c.as_str.ensures) ∙ (sym c.eq.ensures ∙ c.if-eq.false)))
