use Rattle.std.proofs.Common.{List, sym, subst}
use Rattle.go_summary_core.specs.Summaries.{SummaryModel}
use Rattle.go_batch_core.specs.seen.Sights.{AreSeen}
use Rattle.go_batch_core.proofs.SeenAdding.{nothing_seen}
use Rattle.go_batch_core.proofs.seen.sight.Sight.none.Goals as goal

pub invariant_of-result : goal.invariant_of-result
invariant_of-result c =
    let view = c.in_ok-view.view in
    subst (λ (l : List SummaryModel). AreSeen l view.types view.shown view.faces) (sym c.new.ensures.items) (nothing_seen view.types view.shown view.faces c.in_ok-view.ensures.types c.in_ok-view.ensures.shown c.in_ok-view.ensures.faces)
