use Rattle.std.proofs.Common.{List, subst, sym}
use Rattle.std.specs.Prelude.{◌↔◌, Contains}
use Rattle.std.proofs.lemmas.Result.{IfOk-weaker}
use Rattle.go_digraph_core.specs.declared.cycle.edge.Edge.{Edge}
use Rattle.go_graph_core.specs.Imports.{IsEdge}
use Rattle.go_import_core.proofs.ListMarking.{mark_cycles}
use Rattle.go_import_core.proofs.list.judging.cycle_marks.Goals as goal

pub returns-clause-marks : goal.returns-clause-marks
returns-clause-marks c =
    let ps = c.args.workspace.now in
    let all = subst (λ (l : List Edge). (e : Edge) → Contains l e ↔ IsEdge ps e) (sym c.edges.ensures.edges) c.in_ok-plan.ensures.edges in
    IfOk-weaker c.leading_to.result _ _ (λ marks leads. mark_cycles ps c.edges.result.now all c.args.own marks.items leads) c.leading_to.ensures.marks
