use Rattle.std.proofs.Common.{ap, length}
use Rattle.go_digraph_core.proofs.CycleCounts.{len_push}
use Rattle.go_digraph_core.proofs.CyclePlaces.{empty_more, none_empty}
use Rattle.go_digraph_core.proofs.cycle.rows.empty_rows.Goals as goal

pub loop-init : goal.loop-init
loop-init c = record {
  len = ap length c.in_ok-rows.ensures.items;
  empty = none_empty c.in_ok-rows.rows.items c.in_ok-rows.ensures.items;
}

pub loop-preserved : goal.loop-preserved
loop-preserved c = record {
  len = len_push c.loop.rows.items c.push.new.self.items c.loop.counter c.new.result c.loop.invariant.len c.in_ok-push.ensures.items;
  empty = empty_more c.loop.rows.items c.push.new.self.items c.new.result c.in_ok-push.ensures.items c.new.ensures.items c.loop.invariant.empty;
}
