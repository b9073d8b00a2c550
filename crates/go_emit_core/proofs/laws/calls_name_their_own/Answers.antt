use Rattle.go_emit_core.proofs.Calling.{calls_name_their_own}
use Rattle.go_emit_core.proofs.laws.calls_name_their_own.Goals as goal

pub returns : goal.returns
returns c = calls_name_their_own
