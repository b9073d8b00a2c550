use Rattle.std.proofs.Common.{subst}
use Rattle.go_batch_core.specs.Telling.{IsToldOnce}
use Rattle.go_batch_core.proofs.Once.{told_once_all}
use Rattle.go_batch_core.proofs.batch.Batch.is_told_once.Goals as goal

pub returns : goal.returns
returns c =
    let i = c.self.inside in
    subst IsToldOnce c.self.view_is (told_once_all i.sources i.slots.items i.parts c.self.invariant.plans.well c.self.invariant.right c.one_part.ensures)
