use Rattle.std.proofs.Common.{List, subst, sym}
use Rattle.go_summary_core.specs.Summaries.{SummaryModel}
use Rattle.go_batch_core.specs.seen.Sights.{Agrees, AreWithReached}
use Rattle.go_batch_core.proofs.seen.sight.Sight.with_reached.Goals as goal

pub add_reached-requires-clause-agrees : goal.add_reached-requires-clause-agrees
add_reached-requires-clause-agrees c = subst (λ (l : List SummaryModel). Agrees l c.args.reached.now) (sym c.self.view_is) c.requires.agrees

pub returns : goal.returns
returns c = subst (λ (l : List SummaryModel). AreWithReached l c.args.reached.now c.add_reached.new.told.items) c.self.view_is c.in_ok-add_reached.ensures.all
