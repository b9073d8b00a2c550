use Rattle.std.proofs.Common.{sym, ap, ◌∙◌}
use Rattle.std.specs.Prelude.{vec_capacity}
use Rattle.go_batch_core.specs.mirrors.Tells.{with_tells}
use Rattle.go_batch_core.proofs.Telling.{kept_told}
use Rattle.go_batch_core.proofs.batch.Batch.tell.Goals as goal

pub invariant_of-self : goal.invariant_of-self
invariant_of-self c =
    let i = c.self.inside in
    let all = c.deref.ensures.value in
    kept_told i.sources i.plan i.reached i.turns i.slots.items i.parts i.told c.tell_all.new.told i.untold.items (vec_capacity i.untold) i.left c.self.invariant (ap (with_tells c.tell_all.new.told) (sym all) ∙ c.tell_all.ensures.kept ∙ ap (with_tells i.told) all)
