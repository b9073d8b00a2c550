-- The samples are computed.
use Rattle.std.proofs.Common.{refl}
use Rattle.go_universe_core.specs.Universe.{found, spelling_of}
use Rattle.go_declared_core.specs.AliasSample.{AliasFacesAreRight}
use Rattle.go_declared_core.specs.Sample.{FaceSampleIsRight}

pub sample_is_right : FaceSampleIsRight
unfolding found spelling_of
sample_is_right = record { listed = refl; last = refl; second = refl; parameter = refl }

pub aliases_are_right : AliasFacesAreRight
unfolding found spelling_of
aliases_are_right = refl
