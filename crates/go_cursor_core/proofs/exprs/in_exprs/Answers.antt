use Rattle.std.proofs.Common.{refl, sym, ◌∙◌}
use Rattle.go_tree_nodes.specs.Shapes.{shape}
use Rattle.go_expr_core.specs.denote_core.declared.things.Stand.TheVariants as stands
use Rattle.go_cursor_core.specs.Used.{expr_used}
use Rattle.go_cursor_core.proofs.Finding.{in_front, not_in_front, passed, hit, ended}
use Rattle.go_cursor_core.proofs.TreeLists.{listed_next, one_next, exprs_list}
use Rattle.go_cursor_core.proofs.exprs.in_exprs.Goals as goal

pub returns-then-is_some : goal.returns-then-is_some
returns-then-is_some c =
    let es = c.args.exprs.now in
    in_front c.args.start c.in_expr-found.result _ (expr_used stands.«Value» (shape es.first)) (listed_next 0 es.more.items) (exprs_list es.first es.more.items) c.in_expr-found.ensures (sym c.is_some.ensures ∙ c.if-is_some.true)

pub returns-then-is_some-2 : goal.returns-then-is_some-2
returns-then-is_some-2 c =
    let es = c.args.exprs.now in
    hit c.args.start listed_next one_next (λ n. refl) (λ n x xs. refl) c.deref-next-items.result.now es.more.items c.loop-next.next-index c.next-item.result c.in_expr-found-in-loop-next.result c.deref-next-items.ensures.value c.loop-next-test.true c.next-item.is c.loop-next.invariant c.in_expr-found-in-loop-next.ensures (sym c.is_some-in-loop-next.ensures ∙ c.if-is_some-2.true)
    ∙ sym (not_in_front c.args.start c.in_expr-found.result _ (expr_used stands.«Value» (shape es.first)) (listed_next 0 es.more.items) (exprs_list es.first es.more.items) c.in_expr-found.ensures (sym c.is_some.ensures ∙ c.if-is_some.false))

pub loop-next-preserved : goal.loop-next-preserved
loop-next-preserved c =
    passed c.args.start listed_next one_next (λ n. refl) (λ n x xs. refl) c.deref-next-items.result.now c.loop-next.next-index c.next-item.result c.in_expr-found-in-loop-next.result c.loop-next-test.true c.next-item.is c.loop-next.invariant c.in_expr-found-in-loop-next.ensures (sym c.is_some-in-loop-next.ensures ∙ c.if-is_some-2.false)

pub returns : goal.returns
returns c =
    let es = c.args.exprs.now in
    ended c.args.start listed_next one_next (λ n. refl) (λ n x xs. refl) c.deref-next-items.result.now es.more.items c.loop-next.next-index c.deref-next-items.ensures.value c.loop-next-test.false c.loop-next.invariant
    ∙ sym (not_in_front c.args.start c.in_expr-found.result _ (expr_used stands.«Value» (shape es.first)) (listed_next 0 es.more.items) (exprs_list es.first es.more.items) c.in_expr-found.ensures (sym c.is_some.ensures ∙ c.if-is_some.false))
