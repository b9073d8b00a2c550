use Rattle.go_explain_core.proofs.Everywhere.{near_itself, stands_once}
use Rattle.go_explain_core.proofs.Numbers.{names_each, names_no_other, names_none}
use Rattle.go_explain_core.proofs.laws.numbers_name_rules.Goals as goal

pub returns : goal.returns
returns c = record { each = names_each; other = names_no_other; none = names_none; once = stands_once; near = near_itself }
