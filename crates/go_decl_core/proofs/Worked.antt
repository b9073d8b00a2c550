-- The sample is computed.
use Rattle.std.proofs.Common.{refl}
use Rattle.go_decl_core.specs.Sample.{SampleIsRight}

pub sample_is_right : SampleIsRight
sample_is_right = record { places = refl; moved = refl; decls = refl; same_decls = refl; in_specs = refl; same_outside = refl }
