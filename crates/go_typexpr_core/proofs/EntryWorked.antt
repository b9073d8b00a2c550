-- The sample is computed.
use Rattle.std.proofs.Common.{refl}
use Rattle.go_universe_core.specs.Universe.{found, spelling_of}
use Rattle.go_typexpr_core.specs.entry.Sample.{EntrySampleIsRight}

pub sample_is_right : EntrySampleIsRight
unfolding found spelling_of
sample_is_right = refl
