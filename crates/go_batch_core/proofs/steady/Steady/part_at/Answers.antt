use Rattle.std.proofs.Common.{◌≡◌, Some, true, sym, ap, ◌∙◌}
use Rattle.std.specs.Prelude.{slice_get}
use Rattle.go_batch_core.specs.Steadiness.{SteadyModel}
use Rattle.go_batch_core.proofs.Slots.{if_some_more}
use Rattle.go_batch_core.proofs.Steadied.{steady_stays}
use Rattle.go_batch_core.proofs.steady.Steady.part_at.Goals as goal

pub returns-clause-stays : goal.returns-clause-stays
returns-clause-stays c =
    let place = c.args.place in
    let same : slice_get c.args.self.now.same place ≡ Some true = ap (λ (m : SteadyModel). slice_get m.same place) (sym c.self.view_is) ∙ ap (λ l. slice_get l place) (sym c.deref.ensures.value) ∙ c.is_marked.ensures.0 c.if-not-is_marked.false in
    if_some_more c.earlier_at.result c.earlier_at.ensures.was
    (λ p was. steady_stays c.args.snapshot.now c.args.batch.now c.args.self.now place p.now c.sources-sources.ensures.whole.made c.requires.steady c.has_reached.ensures same (c.in_ok-stays.ensures c.if-not-stays.false) was)
