use Rattle.go_answer_laws.proofs.CompletionsPutting.{blocks_stay}
use Rattle.go_answer_laws.proofs.completions.laws.blocks_stay.Goals as goal

pub returns : goal.returns
returns c = blocks_stay
