use Rattle.std.proofs.Common.{ℕ, subst, sym, ◌∙◌}
use Rattle.go_digraph_core.specs.cycle.Cycle.{InRange}
use Rattle.go_digraph_core.proofs.cycle.order.rank.Goals as goal

pub is_certified-requires-clause-edges : goal.is_certified-requires-clause-edges
is_certified-requires-clause-edges c =
    let P : ℕ → Type 0 = λ n. InRange n c.args.edges.now in
    subst P (sym c.in_ok-guess.ensures.ranks) c.requires

pub is_certified-requires-clause-roots : goal.is_certified-requires-clause-roots
is_certified-requires-clause-roots c = c.in_ok-guess.ensures.roots ∙ sym c.in_ok-guess.ensures.ranks

pub returns-then-branch-clause-ranks : goal.returns-then-branch-clause-ranks
returns-then-branch-clause-ranks c = c.in_ok-is_certified.ensures.sound c.if-branch.true

pub returns-else-branch-clause-ranks : goal.returns-else-branch-clause-ranks
returns-else-branch-clause-ranks c = c.ranks_by_reach.ensures.ranks
