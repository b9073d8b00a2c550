use Rattle.std.proofs.Common.{map, take}
use Rattle.go_expr_core.specs.denote_core.CompositeMirrors.Sets.{HasNames}
use Rattle.go_candidate_core.proofs.after_dot.keys.set_of.Given as goal

abbrev pub invariant-loop-name : goal.invariant-loop-name
invariant-loop-name l = HasNames (map (λ n. n.now) l.set.keys) (map (λ n. n.now) (take l.name-index l.names))
