use Rattle.go_expr_core.proofs.Worked.{samples}
use Rattle.go_expr_core.proofs.laws.sample_expressions.Goals as goal

pub returns : goal.returns
returns c = samples
