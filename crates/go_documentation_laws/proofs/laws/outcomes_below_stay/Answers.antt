use Rattle.go_documentation_laws.proofs.Outcomes.{outcomes_below}
use Rattle.go_documentation_laws.proofs.laws.outcomes_below_stay.Goals as goal

pub returns : goal.returns
returns c = outcomes_below
