use Rattle.std.proofs.Common.{List, ◌∷◌, [], subst, sym}
use Rattle.go_summary_core.specs.Summaries.{SummaryModel}
use Rattle.go_batch_core.specs.seen.Sights.{Agrees, AreWithReached}
use Rattle.go_batch_core.proofs.seen.sight.Sight.with_told.Goals as goal

pub add_told-requires-clause-agrees : goal.add_told-requires-clause-agrees
add_told-requires-clause-agrees c = subst (λ (l : List SummaryModel). Agrees l (c.args.summary.now ∷ [])) (sym c.self.view_is) c.requires.agrees

pub returns : goal.returns
returns c = subst (λ (l : List SummaryModel). AreWithReached l (c.args.summary.now ∷ []) c.add_told.new.told.items) c.self.view_is c.in_ok-add_told.ensures.all
