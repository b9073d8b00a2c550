use Rattle.go_block_core.specs.mirrors.Orders.{HasPlaces}
use Rattle.go_block_core.proofs.name_order.places.Given as goal

abbrev pub invariant-loop-place : goal.invariant-loop-place
invariant-loop-place l = HasPlaces l.place l.places.items
