use Rattle.go_spec_laws.proofs.FrontStringBytes as law
use Rattle.go_spec_laws.proofs.front.string_laws.string_values_are_one.Goals as goal

pub returns : goal.returns
returns c = law.string_values_are_one
