use Rattle.std.proofs.Common.{◌≡◌, map, take}
use Rattle.go_site_core.proofs.offsets.place_offsets.Given as goal

abbrev pub invariant-loop-place : goal.invariant-loop-place
invariant-loop-place l = l.offsets.items ≡ map (λ p. p.at) (take l.place-index l.places)
