use Rattle.go_complete_core.proofs.PlacePlacing.{spots_are_places}
use Rattle.go_complete_core.proofs.place.laws.spots_are_places.Goals as goal

pub returns : goal.returns
returns c = spots_are_places
