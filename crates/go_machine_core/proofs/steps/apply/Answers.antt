-- Each arm's call says what its instruction does.
use Rattle.std.proofs.Common.{◌≡◌, List, sym, ap, ◌∙◌, subst, rules, to_z-of_z, w64}
use Rattle.std.specs.Prelude.{IfOk}
use mir.Val.{SFits}
use Rattle.go_object_core.specs.declared.instructions.instruction.Instruction.{Instruction}
use Rattle.go_object_core.specs.declared.instructions.instruction.Instruction.TheVariants as instructions
use Rattle.go_object_core.specs.declared.instructions.letters.Word.{Word}
use Rattle.go_machine_core.specs.mirrors.Shown.{after, acted}
use Rattle.go_machine_core.proofs.steps.apply.Goals as goal

pub returns-in-Push : goal.returns-in-Push
returns-in-Push c = let f : SFits w64 c.in-Push.word = search rules in subst (λ (i : Instruction). IfOk c.push.result (λ end. after c.args.program.now end c.push.new.state ≡ acted c.args.program.now i c.args.state.now)) (sym c.in-Push.is) (simp to_z-of_z at (c.push.ensures c.args.program.now))

pub returns-in-Load : goal.returns-in-Load
returns-in-Load c = subst (λ (i : Instruction). IfOk c.load.result (λ end. after c.args.program.now end c.load.new.state ≡ acted c.args.program.now i c.args.state.now)) (sym c.in-Load.is) (c.load.ensures c.args.program.now)

pub returns-in-Store : goal.returns-in-Store
returns-in-Store c = subst (λ (i : Instruction). IfOk c.store.result (λ end. after c.args.program.now end c.store.new.state ≡ acted c.args.program.now i c.args.state.now)) (sym c.in-Store.is) (c.store.ensures c.args.program.now)

pub returns-in-Drop : goal.returns-in-Drop
returns-in-Drop c = subst (λ (i : Instruction). IfOk c.drop_word.result (λ end. after c.args.program.now end c.drop_word.new.state ≡ acted c.args.program.now i c.args.state.now)) (sym c.in-Drop.is) (c.drop_word.ensures c.args.program.now)

pub returns-in-Neg : goal.returns-in-Neg
returns-in-Neg c = subst (λ (i : Instruction). IfOk c.negate_word.result (λ end. after c.args.program.now end c.negate_word.new.state ≡ acted c.args.program.now i c.args.state.now)) (sym c.in-Neg.is) (c.negate_word.ensures c.args.program.now)

pub returns-in-Not : goal.returns-in-Not
returns-in-Not c = subst (λ (i : Instruction). IfOk c.invert_word.result (λ end. after c.args.program.now end c.invert_word.new.state ≡ acted c.args.program.now i c.args.state.now)) (sym c.in-Not.is) (c.invert_word.ensures c.args.program.now)

pub returns-in-JumpFalse : goal.returns-in-JumpFalse
returns-in-JumpFalse c = subst (λ (i : Instruction). IfOk c.jump_false.result (λ end. after c.args.program.now end c.jump_false.new.state ≡ acted c.args.program.now i c.args.state.now)) (sym c.in-JumpFalse.is) (c.jump_false.ensures c.args.program.now)

pub returns-in-Panic : goal.returns-in-Panic
returns-in-Panic c = subst (λ (i : Instruction). IfOk c.panic.result (λ end. after c.args.program.now end c.panic.new.state ≡ acted c.args.program.now i c.args.state.now)) (sym c.in-Panic.is) (c.panic.ensures c.args.program.now)

pub returns-in-Return : goal.returns-in-Return
returns-in-Return c = subst (λ (i : Instruction). IfOk c.leave_by.result (λ end. after c.args.program.now end c.leave_by.new.state ≡ acted c.args.program.now i c.args.state.now)) (sym c.in-Return.is) (c.leave_by.ensures c.args.program.now)

pub returns-in-Println : goal.returns-in-Println
returns-in-Println c = subst (λ (i : Instruction). IfOk c.println.result (λ end. after c.args.program.now end c.println.new.state ≡ acted c.args.program.now i c.args.state.now)) (ap (λ (ws : List Word). instructions.Println ws) c.words.ensures ∙ sym c.in-Println.is) (c.println.ensures c.args.program.now)
