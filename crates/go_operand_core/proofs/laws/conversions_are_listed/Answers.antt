use Rattle.go_operand_core.proofs.Converting.{integer_to_text, refused, accepts, was_convertible, converted}
use Rattle.go_operand_core.proofs.laws.conversions_are_listed.Goals as goal

pub returns : goal.returns
returns g c = record { integer_to_text = integer_to_text; refused = refused; accepts = accepts; accepted = was_convertible; converted = converted }
