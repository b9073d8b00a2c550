use Rattle.std.proofs.Common.{◌≡◌, ◌++◌, map, drop}
use Rattle.go_candidate_core.specs.at_place.mirrors.Keys.{keys_but}
use Rattle.go_candidate_core.proofs.at_place.keyed.other_keys.Given as goal

abbrev pub invariant-loop-number : goal.invariant-loop-number
invariant-loop-number l = map (λ n. n.now) l.names.items ++ keys_but l.at l.number (drop l.number l.items) ≡ keys_but l.at 0 l.items
