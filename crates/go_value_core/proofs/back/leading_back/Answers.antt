use Rattle.std.proofs.Common.{◌≡◌, ◌<◌, ℕ, List, ◌∙◌, sym, ap, length, get_or, subst, arith, All}
use Rattle.go_digraph_core.specs.declared.cycle.edge.Edge.{Edge}
use Rattle.go_digraph_core.specs.cycle.Cycle.{InRange, IsRanking}
use Rattle.go_digraph_core.specs.needs.Needs.{rows_of, needed, edges_from}
use Rattle.go_digraph_core.proofs.NeedsReading.{rows_count, row_read}
use Rattle.go_digraph_core.proofs.NeedsEdges.{edges_inside, row_inside}
use Rattle.go_value_core.proofs.Backward.{flagged_from}
use Rattle.go_value_core.proofs.back.leading_back.Goals as goal

pub rank_and_order-requires : goal.rank_and_order-requires
rank_and_order-requires c =
    let P : List Edge → Type 0 = λ l. InRange (length c.args.needs.now) l in
    let Q : ℕ → Type 0 = λ n. InRange n (edges_from 0 (rows_of c.args.needs.now)) in
    subst P (sym (c.deref.ensures.value ∙ c.in_ok-edges.ensures)) (subst Q (rows_count c.args.needs.now) (edges_inside (rows_of c.args.needs.now) c.requires))

pub own_ranks-requires-clause-ranks : goal.own_ranks-requires-clause-ranks
own_ranks-requires-clause-ranks c = ap length c.ranks.ensures ∙ c.in_ok-ranked.ensures.len

pub returns : goal.returns
returns c =
    let rows = rows_of c.args.needs.now in
    let E : List Edge → Type 0 = λ es. IsRanking es c.in_ok-ranked.ranked.ranks in
    let edges : c.deref.result.now ≡ edges_from 0 rows = c.deref.ensures.value ∙ c.in_ok-edges.ensures in
    flagged_from rows c.in_ok-ranked.ranked.ranks c.ranks.result.now c.own_ranks.result (subst E edges c.in_ok-ranked.ensures.ranks) c.ranks.ensures c.own_ranks.ensures
