use Rattle.std.proofs.Common.{arith}
use Rattle.go_digraph_core.proofs.ChainKnowing.{all_known}
use Rattle.go_digraph_core.proofs.chain.chain_ends.Goals as goal

pub returns : goal.returns
returns c = all_known c.args.next.now c.loop-start.marks.items c.loop-start.ends.items c.loop-start.way.items 0 c.loop-start.invariant.none c.loop-start.invariant.known (λ i lt. c.loop-start.invariant.marked i (omega arith))
