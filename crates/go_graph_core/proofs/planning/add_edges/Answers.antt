use Rattle.std.proofs.Common.{◌∙◌, ◌++◌, ap}
use Rattle.std.specs.List.{flat_map}
use Rattle.std.proofs.lemmas.List.{take_all}
use Rattle.go_graph_core.specs.mirrors.Targets.{edge_of}
use Rattle.go_graph_core.proofs.planning.add_edges.Goals as goal

pub returns : goal.returns
returns c = c.loop-target.invariant ∙ ap (λ l. c.args.edges.now.items ++ flat_map (edge_of c.args.from) l) (take_all c.loop-target.target-index c.args.targets.now c.loop-target-test.false)
