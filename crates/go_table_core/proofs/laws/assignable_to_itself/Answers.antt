use Rattle.go_table_core.specs.Assign.{identical}
use Rattle.go_table_core.proofs.laws.assignable_to_itself.Goals as goal

pub returns : goal.returns
returns c = λ look t implements is_type. (is_type, (is_type, identical (c.identity_is_equivalence.ensures.reflexive t)))
