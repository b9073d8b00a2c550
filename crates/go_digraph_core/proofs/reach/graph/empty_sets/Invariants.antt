use Rattle.std.proofs.Common.{◌≡◌, length, All}
use Rattle.go_digraph_core.proofs.reach.graph.empty_sets.Given as goal

abbrev pub invariant-loop : goal.invariant-loop
invariant-loop l = record { len : length l.sets.items ≡ l.counter; bound : All (λ s. s.bound ≡ l.count) l.sets.items }
