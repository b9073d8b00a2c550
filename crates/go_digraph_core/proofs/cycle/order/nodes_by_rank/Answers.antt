use Rattle.std.proofs.Common.{rules, List, ℕ, subst, slice_index}
use Rattle.std.specs.List.Sorted.{IsPermutation}
use Rattle.std.proofs.lemmas.List.Sorted.{IsNonDecreasingBy-from_sort_by_key}
use Rattle.go_digraph_core.proofs.cycle.order.nodes_by_rank.Goals as goal

pub returns-clause-each : goal.returns-clause-each
returns-clause-each c = (let P : List ℕ → Type 0 = λ l. IsPermutation l c.sort_unstable_by_key.new.self.items in subst P c.in_ok-order.ensures c.sort_unstable_by_key.ensures.permutation)

pub returns-clause-rising : goal.returns-clause-rising
returns-clause-rising c = IsNonDecreasingBy-from_sort_by_key (λ (node : ℕ). slice_index c.args.ranks.now node) _ c.sort_unstable_by_key.ensures.sorted (λ a r q k. search rules)
