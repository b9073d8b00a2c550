use Rattle.std.proofs.Common.{sym, ap, subst, ◌∙◌}
use Rattle.go_tree_nodes.specs.declared.stmts.Definition.{Definition}
use Rattle.go_tree_nodes.specs.TypeShapes.{shape_idents}
use Rattle.go_tree_nodes.specs.Trees.{Define}
use Rattle.go_tree_nodes.specs.Shapes.{shape_exprs, shape_simple}
use Rattle.go_local_core.specs.Steps.{Steps, Act}
use Rattle.go_local_core.specs.Outline.{simple_steps}
use Rattle.go_names_core.specs.mirrors.States.{state}
use Rattle.go_branch_core.specs.mirrors.Ways.{ComesTo}
use Rattle.go_branch_core.proofs.Stepping.{plain, done_if, checked_at}
use Rattle.go_branch_core.proofs.walk.WalkVisitor.visit_simple.Goals as goal

pub returns-in-Define : goal.returns-in-Define
returns-in-Define g c =
    let self = c.args.self.now in
    let after = c.short.new.self in
    let definition = c.deref.result.now in
    subst (λ t. ComesTo g.C.Meaning.Meant.outside (state (g.C.Checker.rules self.checker.now) self.scopes self.locals.items self.notes.items self.faults.items self.lacks_memory) (λ rest. simple_steps t rest) (state (g.C.Checker.rules after.checker.now) after.scopes after.locals.items after.notes.items after.faults.items c.is_err-self.result))
    (sym (ap shape_simple c.in-Define.is ∙ ap (λ (d : Definition). Define (shape_idents d.names) d.define (shape_exprs d.values)) (sym c.deref.ensures)))
    (done_if g.C.Meaning.Meant.outside c.short.result (state (g.C.Checker.rules self.checker.now) self.scopes self.locals.items self.notes.items self.faults.items self.lacks_memory)
    (λ rest. simple_steps (Define (shape_idents definition.names) definition.define (shape_exprs definition.values)) rest) (g.C.Checker.rules after.checker.now) after.scopes after.locals.items after.notes.items after.faults.items after.lacks_memory
    c.is_err-self.result c.if-self.false c.is_err-self.ensures.value c.short.ensures)

pub returns : goal.returns
returns g c =
    let self = c.args.self.now in
    subst (λ (f : Steps → Steps). ComesTo g.C.Meaning.Meant.outside (state (g.C.Checker.rules self.checker.now) self.scopes self.locals.items self.notes.items self.faults.items self.lacks_memory) f (state (g.C.Checker.rules self.checker.now) self.scopes self.locals.items c.check_simple-outcome.new.notes.items self.faults.items c.is_err-self-2.result)) (sym (plain c.args.simple.now c.in_default.not-Define))
    (checked_at g.C.Meaning.Meant.outside (g.C.Checker.rules self.checker.now) (g.met.C.Checker.at_names self.checker.now) c.check_simple-outcome.result self.scopes self.locals.items
    self.notes.items c.check_simple-outcome.new.notes.items self.faults.items self.lacks_memory c.is_err-self-2.result (Act (shape_simple c.args.simple.now)) c.at-names.result c.as_slice.result.now
    c.at-names.ensures.scopes c.at-names.ensures.locals c.as_slice.ensures.value c.if-self.false c.is_err-self-2.ensures.value c.check_simple-outcome.ensures)
