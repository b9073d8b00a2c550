use Rattle.std.proofs.Common.{refl, sym, ◌∙◌}
use Rattle.go_tree_nodes.specs.Shapes.{shape}
use Rattle.go_cursor_core.specs.Used.{target_used}
use Rattle.go_cursor_core.proofs.Finding.{in_front, not_in_front, passed, hit, ended}
use Rattle.go_cursor_core.proofs.TreeLists.{listed_targets, one_target, targets_list}
use Rattle.go_cursor_core.proofs.pieces.in_targets.Goals as goal

pub returns-then-is_some : goal.returns-then-is_some
returns-then-is_some c =
    let es = c.args.targets.now in
    in_front c.args.start c.in_target-found.result _ (target_used (shape es.first)) (listed_targets 0 es.more.items) (targets_list es.first es.more.items) c.in_target-found.ensures (sym c.is_some.ensures ∙ c.if-is_some.true)

pub returns-then-is_some-2 : goal.returns-then-is_some-2
returns-then-is_some-2 c =
    let es = c.args.targets.now in
    hit c.args.start listed_targets one_target (λ n. refl) (λ n x xs. refl) c.deref-next-items.result.now es.more.items c.loop-next.next-index c.next-item.result c.in_target-found-in-loop-next.result c.deref-next-items.ensures.value c.loop-next-test.true c.next-item.is c.loop-next.invariant c.in_target-found-in-loop-next.ensures (sym c.is_some-in-loop-next.ensures ∙ c.if-is_some-2.true)
    ∙ sym (not_in_front c.args.start c.in_target-found.result _ (target_used (shape es.first)) (listed_targets 0 es.more.items) (targets_list es.first es.more.items) c.in_target-found.ensures (sym c.is_some.ensures ∙ c.if-is_some.false))

pub loop-next-preserved : goal.loop-next-preserved
loop-next-preserved c =
    passed c.args.start listed_targets one_target (λ n. refl) (λ n x xs. refl) c.deref-next-items.result.now c.loop-next.next-index c.next-item.result c.in_target-found-in-loop-next.result c.loop-next-test.true c.next-item.is c.loop-next.invariant c.in_target-found-in-loop-next.ensures (sym c.is_some-in-loop-next.ensures ∙ c.if-is_some-2.false)

pub returns : goal.returns
returns c =
    let es = c.args.targets.now in
    ended c.args.start listed_targets one_target (λ n. refl) (λ n x xs. refl) c.deref-next-items.result.now es.more.items c.loop-next.next-index c.deref-next-items.ensures.value c.loop-next-test.false c.loop-next.invariant
    ∙ sym (not_in_front c.args.start c.in_target-found.result _ (target_used (shape es.first)) (listed_targets 0 es.more.items) (targets_list es.first es.more.items) c.in_target-found.ensures (sym c.is_some.ensures ∙ c.if-is_some.false))
