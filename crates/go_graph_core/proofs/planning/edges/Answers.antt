use Rattle.std.proofs.Common.{◌∙◌, ◌++◌, sym, ap, List}
use Rattle.std.proofs.lemmas.List.{take_all}
use Rattle.go_digraph_core.specs.declared.cycle.edge.Edge.{Edge}
use Rattle.go_graph_core.specs.mirrors.Targets.{edges_from, package_edges}
use Rattle.go_graph_core.proofs.PlanEdges.{edges_more}
use Rattle.go_graph_core.proofs.planning.edges.Goals as goal

pub loop-from-preserved : goal.loop-from-preserved
loop-from-preserved c =
    let added = c.in_ok-add_package_edges.ensures ∙ ap (λ l. c.loop-from.edges.items ++ package_edges c.loop-from.from l) c.deref.ensures.value in
    added ∙ (ap (λ (l : List Edge). l ++ package_edges c.loop-from.from c.index-targets-from.result.items) c.loop-from.invariant ∙ sym (edges_more c.args.targets.now c.loop-from.from c.index-targets-from.result c.loop-from-test.true c.index-targets-from.is))

pub returns : goal.returns
returns c = c.loop-from.invariant ∙ ap (edges_from 0) (take_all c.loop-from.from c.args.targets.now c.loop-from-test.false)
