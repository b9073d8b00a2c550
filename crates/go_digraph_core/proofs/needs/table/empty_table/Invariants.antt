use Rattle.std.proofs.Common.{◌≡◌, ℕ, None, length}
use Rattle.go_digraph_core.specs.needs.Needs.{known_in}
use Rattle.go_digraph_core.proofs.needs.table.empty_table.Given as goal

abbrev pub invariant-loop : goal.invariant-loop
invariant-loop g l = record { len : length l.table.items ≡ l.counter; none : (a : ℕ) → known_in l.table.items a ≡ None }
