use Rattle.go_parse_core.proofs.Meanings.{has_one_rule}
use Rattle.go_parse_core.proofs.laws.one_rule.Goals as goal

pub returns : goal.returns
returns c = has_one_rule
