use Rattle.go_answer_laws.proofs.CompletionsPutting.{identifiers_respelled}
use Rattle.go_answer_laws.proofs.completions.laws.identifiers_can_be_respelled.Goals as goal

pub returns : goal.returns
returns c = identifiers_respelled
