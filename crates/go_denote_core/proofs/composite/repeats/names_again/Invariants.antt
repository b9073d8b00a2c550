use Rattle.std.proofs.Common.{map, take}
use Rattle.go_denote_core.specs.composite.mirrors.Sets.{HasNames, HasRepeats}
use Rattle.go_denote_core.proofs.composite.repeats.names_again.Given as goal

abbrev pub invariant-loop-name : goal.invariant-loop-name
invariant-loop-name l =
    record {
      seen : HasNames (map (λ n. n.now) l.seen.keys) (map (λ n. n.now) (take l.name-index l.names));
      again : HasRepeats (map (λ n. n.now) l.again.keys) (map (λ n. n.now) (take l.name-index l.names));
    }
