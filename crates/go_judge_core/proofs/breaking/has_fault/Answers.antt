use Rattle.go_judge_core.proofs.Noted.{fault_there}
use Rattle.go_judge_core.proofs.breaking.has_fault.Goals as goal

pub returns-then-is_same : goal.returns-then-is_same
returns-then-is_same c = λ _.
    fault_there c.args.faults.now c.loop-fault.fault-index _ c.args.offset c.args.rule c.loop-fault-test.true (c.is_same.ensures c.if-is_same.true)
