use Rattle.std.proofs.Common.{List, subst, sym, ◌∙◌}
use Rattle.std.proofs.lemmas.Result.{IfOk-weaker}
use Rattle.go_digraph_core.specs.declared.cycle.edge.Edge.{Edge}
use Rattle.go_digraph_core.specs.cycle.Cycle.{InRange}
use Rattle.go_digraph_core.proofs.CycleMarks.{lead_to}
use Rattle.go_digraph_core.proofs.CycleWalks.{reversed_in_range}
use Rattle.go_digraph_core.proofs.cycle.reach.leading_to.Goals as goal

pub marks_back-requires-clause-edges : goal.marks_back-requires-clause-edges
marks_back-requires-clause-edges c =
    let P : List Edge → Type 0 = λ l. InRange c.args.count l in
    subst P (sym (c.deref.ensures.value ∙ c.in_ok-back_edges.ensures)) (reversed_in_range c.args.edges.now c.args.count c.requires.edges)

pub returns-clause-marks : goal.returns-clause-marks
returns-clause-marks c =
    IfOk-weaker c.marks_back.result _ _ (λ marks. lead_to c.args.edges.now c.deref.result.now c.args.to marks.items (c.deref.ensures.value ∙ c.in_ok-back_edges.ensures)) c.marks_back.ensures.marks
