use Rattle.std.proofs.Common.{ap, ◌∙◌}
use Rattle.go_tree_nodes.specs.TypeShapes.{idents_from}
use Rattle.go_tree_core.specs.copies.Respelled.{spelled}
use Rattle.go_tree_core.proofs.CopiesSameTrees.{one_kept, all_kept, next_ident, other_next, same_idents}
use Rattle.go_tree_core.proofs.copies.copies.copy_idents.Goals as goal

pub loop-next-preserved : goal.loop-next-preserved
loop-next-preserved c = one_kept (other_next (spelled c.args.copier.now)) _ _ _ _ _ _ c.loop-next-test.true c.next-item.is c.in-Ok-add.ensures (ap (next_ident c.next-item.result.comma) c.in-Ok-copy_ident.ensures) c.loop-next.invariant

pub returns : goal.returns
returns c =
    let h = spelled c.args.copier.now in
    let first = c.args.idents.now.first in
    let more = all_kept (other_next h) _ _ _ _ c.deref-next-items.ensures.value c.loop-next-test.false c.loop-next.invariant in
    ap (λ x. idents_from x c.loop-next.more.items) c.in-Ok.ensures ∙ ap (idents_from (h first)) more ∙ same_idents h first c.args.idents.now.more.items
