use Rattle.std.proofs.Common.{rules, ◌≡◌, ◌<◌, ◌+◌, get_or, length, arith}
use Rattle.std.proofs.lemmas.Grind.{get_or_default_zero}
use Rattle.go_digraph_core.proofs.ReadyQueueTimes.{times_take_more, counted_up}
use Rattle.go_digraph_core.proofs.ready_queue.counts.count_up.Goals as goal

pub loop-node-preserved : goal.loop-node-preserved
loop-node-preserved c =
    let node = get_or c.args.nodes.now c.loop-node.node-index 0 in
    let missing = c.loop-node.missing.items in
    let within : node < length missing = omega (arith, c.requires c.loop-node.node-index 0 (omega arith), c.loop-node.invariant.many) in
    let more : c.in-Some.more ≡ get_or missing node 0 + 1 = omega (arith, c.in-Some.ensures, c.index.ensures, get_or_default_zero missing node c.index.result.now within) in
    record {
      many = search rules;
      each = λ n. omega (arith, counted_up missing node c.in-Some.more n more within, c.loop-node.invariant.each n, times_take_more n c.args.nodes.now c.loop-node.node-index (omega arith));
    }
