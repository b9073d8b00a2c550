use Rattle.go_answer_laws.proofs.DeclarationsAnswering.{answers_are_there}
use Rattle.go_answer_laws.proofs.DeclarationsParts.{declarations_are_there}
use Rattle.go_answer_laws.proofs.declarations.laws.declarations_are_there.Goals as goal

pub returns : goal.returns
returns c = record { each = declarations_are_there; answers = answers_are_there }
