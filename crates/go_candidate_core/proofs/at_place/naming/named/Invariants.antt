use Rattle.std.proofs.Common.{◌≡◌, map, take}
use Rattle.go_candidate_core.proofs.at_place.naming.named.Given as goal

abbrev pub invariant-loop-name : goal.invariant-loop-name
invariant-loop-name l = l.copies.items ≡ map (λ n. n.now) (take l.name-index l.names)
