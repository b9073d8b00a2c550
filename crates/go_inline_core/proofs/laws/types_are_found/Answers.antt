use Rattle.go_inline_core.proofs.Found.{types_are_found}
use Rattle.go_inline_core.proofs.laws.types_are_found.Goals as goal

pub returns : goal.returns
returns c = types_are_found
