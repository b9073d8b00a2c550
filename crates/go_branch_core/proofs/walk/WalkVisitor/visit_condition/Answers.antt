use Rattle.go_tree_nodes.specs.Shapes.{shape}
use Rattle.go_local_core.specs.Steps.{Condition}
use Rattle.go_branch_core.proofs.Stepping.{checked_at}
use Rattle.go_branch_core.proofs.walk.WalkVisitor.visit_condition.Goals as goal

pub returns : goal.returns
returns g c =
    let self = c.args.self.now in
    checked_at g.C.Meaning.Meant.outside (g.C.Checker.rules self.checker.now) (g.met.C.Checker.at_names self.checker.now) c.check_condition-outcome.result self.scopes self.locals.items
    self.notes.items c.check_condition-outcome.new.notes.items self.faults.items self.lacks_memory c.is_err-self.result (Condition (shape c.args.condition.now)) c.at-names.result c.as_slice.result.now
    c.at-names.ensures.scopes c.at-names.ensures.locals c.as_slice.ensures.value c.if-self.false c.is_err-self.ensures.value c.check_condition-outcome.ensures
