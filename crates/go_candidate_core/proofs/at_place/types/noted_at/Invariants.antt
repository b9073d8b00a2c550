use Rattle.std.proofs.Common.{◌≡◌, drop, map}
use Rattle.go_candidate_core.specs.at_place.Types.{noted_at, noted_shown}
use Rattle.go_candidate_core.proofs.at_place.types.noted_at.Given as goal

abbrev pub invariant-loop-noted : goal.invariant-loop-noted
invariant-loop-noted l = noted_at (map noted_shown (drop l.noted-index l.types)) l.start ≡ noted_at (map noted_shown l.types) l.start
