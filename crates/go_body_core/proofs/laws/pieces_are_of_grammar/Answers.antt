use Rattle.go_body_core.proofs.WellFormed.{pieces_are_of_grammar}
use Rattle.go_body_core.proofs.laws.pieces_are_of_grammar.Goals as goal

pub returns : goal.returns
returns c = pieces_are_of_grammar
