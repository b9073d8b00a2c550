use Rattle.go_parse_core.proofs.Aliases.{aliases_are_of_names}
use Rattle.go_parse_core.proofs.laws.aliases_are_of_names.Goals as goal

pub returns : goal.returns
returns c = aliases_are_of_names
