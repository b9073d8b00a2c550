use Rattle.std.proofs.Common.{refl}
use Rattle.go_constant_core.proofs.laws.texts_are_joined.Goals as goal

pub returns : goal.returns
returns c = λ a b. refl
