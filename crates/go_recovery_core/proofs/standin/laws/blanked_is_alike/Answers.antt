use Rattle.go_recovery_core.proofs.StandinAlike.{blanked_alike}
use Rattle.go_recovery_core.proofs.standin.laws.blanked_is_alike.Goals as goal

pub returns : goal.returns
returns c = blanked_alike
