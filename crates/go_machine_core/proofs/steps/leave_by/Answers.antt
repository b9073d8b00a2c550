use Rattle.std.proofs.Common.{◌≡◌, sym, subst, Bool}
use Rattle.std.specs.Prelude.{IfOk}
use Rattle.go_object_core.specs.declared.instructions.instruction.Instruction.TheVariants as instructions
use Rattle.go_machine_core.specs.mirrors.Shown.{after, acted}
use Rattle.go_machine_core.proofs.steps.leave_by.Goals as goal

pub returns-then-gives : goal.returns-then-gives
returns-then-gives c = λ p. subst (λ (r : Bool). IfOk c.leave_with.result (λ end. after p end c.leave_with.new.state ≡ acted p (instructions.Return r) c.args.state.now)) (sym c.if-gives.true) (c.leave_with.ensures p)

pub returns-else-gives : goal.returns-else-gives
returns-else-gives c = λ p. subst (λ (r : Bool). IfOk c.leave.result (λ end. after p end c.leave.new.state ≡ acted p (instructions.Return r) c.args.state.now)) (sym c.if-gives.false) (c.leave.ensures p)
