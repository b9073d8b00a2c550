use Rattle.std.proofs.Common.{ap, ◌∙◌}
use Rattle.go_type_core.proofs.Steps.{methods_kept, methods_left, methods_all}
use Rattle.go_type_core.proofs.methods.own_methods.Goals as goal
use Rattle.go_type_core.proofs.methods.own_methods.Goals.{then-branch+in_ok-settled_method+in_ok-push, else-branch}

pub loop-method-preserved : goal.loop-method-preserved
loop-method-preserved g c = elim c.if-branch.branch [
  | then-branch+in_ok-settled_method+in_ok-push w ↦ methods_kept (g.K.Kinds.kinds c.args.kinds.now) c.args.path.now c.args.fields.now c.args.methods.now c.loop-method.method-index c.method-item.result c.loop-method-test.true c.method-item.is c.loop-method.own.items
      c.loop-method.seen c.take_method.new.seen c.in_ok-take_method.field-0 c.in_ok-take_method.ensures.kept c.in_ok-take_method.ensures.seen c.loop-method.invariant c.if-branch.own.items w.in_ok-settled_method.field-0 w.if-branch.true w.in_ok-settled_method.ensures (ap (λ v. v.items) w.own-is ∙ w.in_ok-push.ensures.items)
  | else-branch w ↦ methods_left (g.K.Kinds.kinds c.args.kinds.now) c.args.path.now c.args.fields.now c.args.methods.now c.loop-method.method-index c.method-item.result c.loop-method-test.true c.method-item.is c.loop-method.own.items
      c.loop-method.seen c.take_method.new.seen c.in_ok-take_method.field-0 c.in_ok-take_method.ensures.kept c.in_ok-take_method.ensures.seen c.loop-method.invariant c.if-branch.own.items w.if-branch.false (ap (λ v. v.items) w.own-is)
]

pub returns : goal.returns
returns g c = methods_all (g.K.Kinds.kinds c.args.kinds.now) c.args.path.now c.args.fields.now c.args.methods.now c.loop-method.method-index c.loop-method.own.items c.loop-method.seen c.loop-method-test.false c.loop-method.invariant
