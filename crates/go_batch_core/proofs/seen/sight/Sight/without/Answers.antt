use Rattle.std.proofs.Common.{◌≡◌, List, sym, subst}
use Rattle.std.proofs.lemmas.List.Elements.{All-nil}
use Rattle.go_summary_core.specs.Summaries.{SummaryModel, path_of}
use Rattle.go_batch_core.specs.seen.Local.{NoneIsOf}
use Rattle.go_batch_core.proofs.seen.sight.Sight.without.Goals as goal

pub returns-then-has_package-clause-none : goal.returns-then-has_package-clause-none
returns-then-has_package-clause-none c = subst (λ (l : List SummaryModel). NoneIsOf l c.args.path.now) (sym c.in_ok-nothing.ensures) (All-nil (λ (s : SummaryModel). c.args.path.now ≡ path_of s → ⊥))

pub returns-clause-none : goal.returns-clause-none
returns-clause-none c = subst (λ (l : List SummaryModel). NoneIsOf l c.args.path.now) c.self.view_is (c.has_package.ensures.none c.if-has_package.false)
