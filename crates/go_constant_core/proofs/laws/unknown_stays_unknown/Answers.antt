use Rattle.std.proofs.Common.{refl}
use Rattle.go_constant_core.proofs.Meanings.{unknown_right}
use Rattle.go_constant_core.proofs.laws.unknown_stays_unknown.Goals as goal

pub returns : goal.returns
returns c = record { left = λ op b. refl; right = unknown_right; alone = λ op. refl }
