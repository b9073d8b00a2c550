use Rattle.std.proofs.Common.{List, subst, sym, ◌∙◌}
use Rattle.go_digraph_core.specs.declared.cycle.edge.Edge.{Edge}
use Rattle.go_digraph_core.specs.cycle.Cycle.{InRange}
use Rattle.go_digraph_core.proofs.CycleWalks.{reversed_in_range}
use Rattle.go_digraph_core.proofs.cycle.guess.search_back.Goals as goal

pub rows_of-requires : goal.rows_of-requires
rows_of-requires c =
    let P : List Edge → Type 0 = λ l. InRange c.args.count l in
    subst P (sym (c.deref.ensures.value ∙ c.in_ok-back_edges.ensures)) (reversed_in_range c.args.edges.now c.args.count c.requires)
