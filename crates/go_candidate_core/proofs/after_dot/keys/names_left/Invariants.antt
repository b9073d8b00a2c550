use Rattle.std.proofs.Common.{◌≡◌, ◌++◌, drop, map}
use Rattle.go_candidate_core.specs.after_dot.mirrors.Keyed.{keys_left}
use Rattle.go_candidate_core.proofs.after_dot.keys.names_left.Given as goal

abbrev pub invariant-loop-at : goal.invariant-loop-at
invariant-loop-at g l =
    let fields = (g.E.Literals.literals l.env).fields l.t in
    map (λ n. n.now) l.names.items ++ keys_left (map (λ n. n.now) l.seen.keys ++ map (λ n. n.now) l.others.keys) (drop l.at fields) ≡ keys_left (map (λ n. n.now) l.others.keys) fields
