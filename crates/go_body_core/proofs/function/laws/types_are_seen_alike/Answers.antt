use Rattle.go_body_core.proofs.FunctionSeen.{types_are_seen_alike}
use Rattle.go_body_core.proofs.function.laws.types_are_seen_alike.Goals as goal

pub returns : goal.returns
returns c = types_are_seen_alike
