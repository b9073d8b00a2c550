use Rattle.go_exists_laws.proofs.Ones.{one_of_input}
use Rattle.go_exists_laws.proofs.laws.each_input_has_one_part.Goals as goal

pub returns : goal.returns
returns c = one_of_input c.inputs_have_parts.ensures c.one_part.ensures
