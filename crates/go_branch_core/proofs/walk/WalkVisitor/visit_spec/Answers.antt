use Rattle.go_tree_nodes.specs.Shapes.{shape_value_spec}
use Rattle.go_local_core.specs.Outline.{spec_steps}
use Rattle.go_names_core.specs.mirrors.States.{state}
use Rattle.go_branch_core.proofs.Stepping.{done_if}
use Rattle.go_branch_core.proofs.walk.WalkVisitor.visit_spec.Goals as goal

pub returns : goal.returns
returns g c =
    let self = c.args.self.now in
    let after = c.spec.new.self in
    done_if g.C.Meaning.Meant.outside c.spec.result (state (g.C.Checker.rules self.checker.now) self.scopes self.locals.items self.notes.items self.faults.items self.lacks_memory)
    (λ rest. spec_steps c.args.kind (shape_value_spec c.args.spec.now) rest) (g.C.Checker.rules after.checker.now) after.scopes after.locals.items after.notes.items after.faults.items after.lacks_memory
    c.is_err-self.result c.if-self.false c.is_err-self.ensures.value c.spec.ensures
