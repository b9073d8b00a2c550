use Rattle.std.proofs.Common.{refl}
use Rattle.go_emit_core.proofs.laws.sample_is_emitted.Goals as goal

pub returns : goal.returns
returns c = λ s others. refl
