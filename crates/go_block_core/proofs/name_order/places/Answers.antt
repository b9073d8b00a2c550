use Rattle.go_block_core.proofs.Spelled.{places_more}
use Rattle.go_block_core.proofs.name_order.places.Goals as goal

pub loop-place-preserved : goal.loop-place-preserved
loop-place-preserved c = places_more c.loop-place.places.items _ c.loop-place.place c.loop-place.invariant c.in_ok-push.ensures.items
