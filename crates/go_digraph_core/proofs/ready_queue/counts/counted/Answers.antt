use Rattle.std.proofs.Common.{map, arith, ◌∙◌}
use Rattle.go_digraph_core.proofs.ReadyQueueOwing.{nodes_at, total_more, total_all, length_mapped}
use Rattle.go_digraph_core.proofs.ready_queue.counts.counted.Goals as goal

pub count_up-requires : goal.count_up-requires
count_up-requires c =
    let all = nodes_at c.args.count c.args.needing.now c.loop-nodes.nodes-index c.nodes-item.result c.deref.result.now c.requires (omega arith) c.nodes-item.is c.deref.ensures.value in
    λ k d below. omega (arith, all k d below, c.loop-nodes.invariant.many)

pub loop-nodes-preserved : goal.loop-nodes-preserved
loop-nodes-preserved c = record {
  many = c.in_ok-count_up.ensures.many ∙ c.loop-nodes.invariant.many;
  each = λ n. omega (arith, c.in_ok-count_up.ensures.each n, c.loop-nodes.invariant.each n, total_more n c.args.needing.now c.loop-nodes.nodes-index c.nodes-item.result c.deref.result.now (omega arith) c.nodes-item.is c.deref.ensures.value);
}

pub returns-clause-each : goal.returns-clause-each
returns-clause-each c = λ n.
    c.loop-nodes.invariant.each n ∙ total_all n (map (λ r. r.items) c.args.needing.now) c.loop-nodes.nodes-index (omega (arith, length_mapped c.args.needing.now))
