use Rattle.go_denote_core.proofs.CompositeLiteralLaws.{keys_of_elements}
use Rattle.go_denote_core.proofs.composite.laws.keys_of_elements.Goals as goal

pub returns : goal.returns
returns c = keys_of_elements
