use Rattle.std.proofs.Common.{ℕ, List, Vec, subst, sym, arith}
use Rattle.std.specs.declared.alloc.Global.{Global}
use Rattle.go_digraph_core.specs.cycle.mirrors.Search.{IsReachCount, AreRows}
use Rattle.go_digraph_core.proofs.CycleCounts.{counts_push, len_push, ranking_from_counts}
use Rattle.go_digraph_core.proofs.cycle.reach.ranks_by_reach.Goals as goal

pub reached_count-requires-clause-rows : goal.reached_count-requires-clause-rows
reached_count-requires-clause-rows c =
    let P : List (Vec ℕ Global) → Type 0 = λ l. AreRows c.args.edges.now l in
    subst P (sym c.deref.ensures.value) c.in_ok-rows.ensures.rows

pub loop-start-preserved : goal.loop-start-preserved
loop-start-preserved c =
    let P : ℕ → Type 0 = λ n. IsReachCount c.args.edges.now n c.loop-start.start c.in_ok-reached_count.field-0 in
    record {
      counts = counts_push _ _ _ _ _ _ c.loop-start.invariant.len c.in_ok-push.ensures.items c.loop-start.invariant.counts (subst P (omega (arith, c.in_ok-rows.ensures.len)) c.in_ok-reached_count.ensures);
      len = len_push _ _ _ _ c.loop-start.invariant.len c.in_ok-push.ensures.items;
    }

pub returns-clause-ranks : goal.returns-clause-ranks
returns-clause-ranks c = ranking_from_counts _ c.args.count _ c.requires (λ v lt. c.loop-start.invariant.counts v (omega arith))
