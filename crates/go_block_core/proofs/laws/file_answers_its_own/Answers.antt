use Rattle.go_block_core.proofs.HoldingLaws.{file_answers}
use Rattle.go_block_core.proofs.laws.file_answers_its_own.Goals as goal

pub returns : goal.returns
returns c = file_answers
