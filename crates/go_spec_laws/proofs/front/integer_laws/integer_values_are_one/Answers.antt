use Rattle.go_spec_laws.proofs.FrontIntegerValues as law
use Rattle.go_spec_laws.proofs.front.integer_laws.integer_values_are_one.Goals as goal

pub returns : goal.returns
returns c = law.integer_values_are_one
