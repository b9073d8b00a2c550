use Rattle.go_documentation_laws.proofs.Lower.{parts_below}
use Rattle.go_documentation_laws.proofs.laws.parts_below_stay.Goals as goal

pub returns : goal.returns
returns c = parts_below c.one_part.ensures
