use Rattle.std.proofs.Common.{◌∙◌, ◌++◌, ap}
use Rattle.std.proofs.lemmas.List.{take_all}
use Rattle.go_graph_core.specs.mirrors.Targets.{edge_of, package_edges}
use Rattle.std.specs.List.{flat_map}
use Rattle.go_graph_core.proofs.PlanEdges.{file_edges_more}
use Rattle.go_graph_core.proofs.planning.add_package_edges.Goals as goal

pub loop-targets-preserved : goal.loop-targets-preserved
loop-targets-preserved c =
    let added = c.in_ok-add_edges.ensures ∙ ap (λ l. c.loop-targets.edges.items ++ flat_map (edge_of c.args.from) l) c.deref.ensures.value in
    file_edges_more c.args.from c.args.files.now c.loop-targets.targets-index c.targets-item.result c.args.edges.now.items c.loop-targets.edges.items c.add_edges.new.edges.items c.loop-targets-test.true c.targets-item.is c.loop-targets.invariant added

pub returns : goal.returns
returns c = c.loop-targets.invariant ∙ ap (λ l. c.args.edges.now.items ++ package_edges c.args.from l) (take_all c.loop-targets.targets-index c.args.files.now c.loop-targets-test.false)
