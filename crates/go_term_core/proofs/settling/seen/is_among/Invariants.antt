use Rattle.std.proofs.Common.{◌≡◌, map, drop}
use Rattle.go_term_core.specs.settling.Settled.{is_among_names}
use Rattle.go_term_core.proofs.settling.seen.is_among.Given as goal

abbrev pub invariant-loop-other : goal.invariant-loop-other
invariant-loop-other l = is_among_names (map (λ n. n.now) (drop l.other-index l.names)) l.name ≡ is_among_names (map (λ n. n.now) l.names) l.name
