use Rattle.std.proofs.Common.{◌≡◌, ◌++◌, drop, map}
use Rattle.std.specs.Prelude.{filter}
use Rattle.go_candidate_core.specs.context.Alone.{stands_alone}
use Rattle.go_candidate_core.proofs.context.alone.names_alone.Given as goal

abbrev pub invariant-loop-name : goal.invariant-loop-name
invariant-loop-name l = map (λ n. n.now) l.names.items ++ filter (stands_alone l.scopes l.stand) (map (λ n. n.now) (drop l.name-index l.name-items)) ≡ filter (stands_alone l.scopes l.stand) (map (λ n. n.now) l.name-items)
