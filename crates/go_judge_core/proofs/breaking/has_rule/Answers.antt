use Rattle.go_judge_core.proofs.Noted.{noted_fault, noted_refusal}
use Rattle.go_judge_core.proofs.breaking.has_rule.Goals as goal

pub returns-then-has_fault : goal.returns-then-has_fault
returns-then-has_fault g c = λ _.
    noted_fault c.args.notes.now.uses.items c.as_slice-faults.result.now c.args.notes.now.faults.items c.args.offset c.args.rule c.as_slice-faults.ensures.value (c.has_fault.ensures c.if-has_fault.true)

pub returns : goal.returns
returns g c = λ holds.
    noted_refusal c.as_slice-uses.result.now c.args.notes.now.uses.items c.args.notes.now.faults.items c.args.offset c.args.rule c.as_slice-uses.ensures.value (c.has_refusal.ensures holds)
