use Rattle.std.proofs.Common.{rules, ◌≡◌, ◌+◌, ◌-◌, get_or, arith, ap, ◌∙◌, refl}
use Rattle.go_digraph_core.specs.ready_queue.mirrors.Counting.{once}
use Rattle.go_digraph_core.proofs.ReadyQueueTimes.{times_take_more, enough_left, counted_down}
use Rattle.go_digraph_core.proofs.ready_queue.counts.release.Goals as goal

pub count_down-requires-clause-some : goal.count_down-requires-clause-some
count_down-requires-clause-some c =
    let node = get_or c.args.nodes.now c.loop-node.node-index 0 in
    enough_left c.args.nodes.now c.loop-node.node-index (get_or c.loop-node.counts.missing.items node 0) (get_or c.args.counts.now.missing.items node 0) (omega arith) (c.loop-node.invariant.missing node) (c.requires.enough node)

pub loop-node-preserved : goal.loop-node-preserved
loop-node-preserved c = record {
  many = search rules;
  missing = λ n.
      let node = get_or c.args.nodes.now c.loop-node.node-index 0 in
      let down : get_or c.count_down.new.counts.missing.items n 0 + once n node ≡ get_or c.loop-node.counts.missing.items n 0 =
      ap (λ xs. get_or xs n 0 + once n node) c.count_down.ensures.missing ∙ counted_down c.loop-node.counts.missing.items node (get_or c.loop-node.counts.missing.items node 0 - 1) n refl
      (enough_left c.args.nodes.now c.loop-node.node-index (get_or c.loop-node.counts.missing.items node 0) (get_or c.args.counts.now.missing.items node 0) (omega arith) (c.loop-node.invariant.missing node) (c.requires.enough node)) in
      omega (arith, down, times_take_more n c.args.nodes.now c.loop-node.node-index (omega arith), c.loop-node.invariant.missing n);
  queued = search rules;
  room = search rules;
}
