use Rattle.go_body_core.proofs.FunctionOccurring.{functions_have_occurrences}
use Rattle.go_body_core.proofs.function.laws.functions_have_occurrences.Goals as goal

pub returns : goal.returns
returns c = functions_have_occurrences
