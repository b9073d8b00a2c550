use Rattle.std.proofs.Common.{arith, length-set}
use Rattle.go_digraph_core.specs.declared.cycle.edge.Edge.{Edge}
use Rattle.go_digraph_core.specs.cycle.mirrors.Search.{edge_at}
use Rattle.go_digraph_core.proofs.CyclePlaces.{rows_push, rows_all}
use Rattle.go_digraph_core.proofs.cycle.rows.rows_of.Goals as goal

pub loop-place-preserved : goal.loop-place-preserved
loop-place-preserved c =
    let edge : Edge = edge_at c.args.edges.now c.loop-place.place in
    record {
      len = omega (arith, length-set c.loop-place.rows.items edge.from c.push.new.self);
      rows = rows_push c.args.edges.now c.loop-place.place c.loop-place.rows.items c.index_mut-row.result.now c.push.new.self (omega (arith, (c.requires c.loop-place.place (record { from = 0; to = 0 }) (omega arith)).0)) c.index_mut-row.ensures.value c.in_ok-push.ensures.items c.loop-place.invariant.rows;
    }

pub returns-clause-rows : goal.returns-clause-rows
returns-clause-rows c = rows_all c.args.edges.now c.loop-place.place c.loop-place.rows.items (omega arith) c.loop-place.invariant.rows
