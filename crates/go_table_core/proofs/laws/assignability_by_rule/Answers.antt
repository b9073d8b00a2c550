use Rattle.go_table_core.proofs.ByRule.{by_rule}
use Rattle.go_table_core.proofs.laws.assignability_by_rule.Goals as goal

pub returns : goal.returns
returns c = by_rule
