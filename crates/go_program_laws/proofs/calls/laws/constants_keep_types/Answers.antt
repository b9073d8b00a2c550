use Rattle.go_program_laws.proofs.CallsDenoting.{constants_keep_types}
use Rattle.go_program_laws.proofs.calls.laws.constants_keep_types.Goals as goal

pub returns : goal.returns
returns g c = constants_keep_types _ _ _ _
