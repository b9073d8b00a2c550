use Rattle.go_scan_core.proofs.Answered as law
use Rattle.go_scan_core.proofs.laws.tokens_are_the_answer.Goals as goal

pub returns : goal.returns
returns c = law.tokens_are_the_answer
