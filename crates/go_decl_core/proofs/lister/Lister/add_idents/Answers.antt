use Rattle.std.proofs.Common.{[], ◌∷◌}
use Rattle.go_decl_core.specs.Outer.{Part, outer}
use Rattle.go_decl_core.proofs.Adding.{adds_step, adds_whole}
use Rattle.go_decl_core.proofs.ListLemmas.{next_outers, idents_list}
use Rattle.go_decl_core.proofs.lister.Lister.add_idents.Goals as goal

pub loop-next-preserved : goal.loop-next-preserved
loop-next-preserved c = adds_step (next_outers c.args.kind Part) _ (outer c.args.kind Part c.args.idents.now.first ∷ []) c.deref-next-items.result.now c.loop-next.next-index c.next-item.result c.loop-next-test.true c.next-item.is c.loop-next.invariant c.add-in-loop-next.ensures

pub returns : goal.returns
returns c = adds_whole (next_outers c.args.kind Part) _ (outer c.args.kind Part c.args.idents.now.first ∷ []) c.deref-next-items.result.now c.args.idents.now.more.items c.loop-next.next-index _ c.deref-next-items.ensures.value c.loop-next-test.false (idents_list c.args.kind Part c.args.idents.now.first c.args.idents.now.more.items) c.loop-next.invariant
