use Rattle.go_code_core.proofs.Jumps.{jumps_inside}
use Rattle.go_code_core.proofs.laws.jumps_stay_inside.Goals as goal

pub returns : goal.returns
returns c = jumps_inside
