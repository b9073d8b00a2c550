use Rattle.std.proofs.Common.{List, ℕ, map, set, length-set, subst, sym, arith}
use Rattle.std.proofs.lemmas.List.{take_all, take_more}
use Rattle.go_digraph_core.specs.declared.cycle.edge.Edge.{Edge}
use Rattle.go_digraph_core.specs.cycle.Cycle.{reversed}
use Rattle.go_digraph_core.specs.cycle.mirrors.Search.{edge_at}
use Rattle.go_digraph_core.specs.reach.Reach.{AreStarts}
use Rattle.go_digraph_core.specs.reach.mirrors.Filling.{AreEnds}
use Rattle.go_digraph_core.proofs.ReachEnds.{are_starts, ends_none, starts_push}
use Rattle.go_digraph_core.proofs.reach.graph.starts_of.Goals as goal

pub loop-edge-init : goal.loop-edge-init
loop-edge-init c = record { len = c.in_ok-rows.ensures.len; rows = ends_none c.in_ok-rows.rows.items c.in_ok-rows.ensures.empty }

pub loop-edge-preserved : goal.loop-edge-preserved
loop-edge-preserved c =
    let i : ℕ = c.loop-edge.edge-index in
    let e : Edge = edge_at c.args.edges.now i in
    let P : List Edge → Type 0 = λ g. AreEnds (map reversed g) (set c.loop-edge.rows.items e.to c.push.new.self) in
    record {
      len = omega (arith, length-set c.loop-edge.rows.items e.to c.push.new.self, c.loop-edge.invariant.len);
      rows = subst P (sym (take_more c.args.edges.now i (record { from = 0; to = 0 }) c.loop-edge-test.true))
          (starts_push _ e c.loop-edge.rows.items c.index_mut-row.result.now c.push.new.self (omega (arith, (c.requires i (record { from = 0; to = 0 }) c.loop-edge-test.true).1, c.loop-edge.invariant.len)) c.index_mut-row.ensures.value c.in_ok-push.ensures.items c.loop-edge.invariant.rows);
    }

pub returns-clause-rows : goal.returns-clause-rows
returns-clause-rows c =
    let P : List Edge → Type 0 = λ g. AreStarts g (map (λ r. r.items) c.loop-edge.rows.items) in
    subst P (take_all c.loop-edge.edge-index c.args.edges.now c.loop-edge-test.false) (are_starts _ c.loop-edge.rows.items c.loop-edge.invariant.rows)
