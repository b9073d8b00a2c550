use Rattle.std.proofs.Common.{◌∙◌}
use Rattle.go_diagnostic_core.proofs.Changes.{change_said}
use Rattle.go_diagnostic_core.proofs.suggesting.change_told.Goals as goal

pub returns-in_ok-said-in-Some : goal.returns-in_ok-said-in-Some
returns-in_ok-said-in-Some c = change_said c.as_fitting.result _ _ (_, c.in-Some.is) (c.as_fitting.ensures ∙ c.in_ok-said-in-Some.ensures)
