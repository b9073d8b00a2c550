use Rattle.go_answer_laws.proofs.DefinitionsTold.{definitions_are_told}
use Rattle.go_answer_laws.proofs.definitions.laws.definitions_are_told.Goals as goal

pub returns : goal.returns
returns c = definitions_are_told c.declarations_are_there.ensures.answers
