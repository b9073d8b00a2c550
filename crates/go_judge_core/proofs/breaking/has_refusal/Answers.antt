use Rattle.go_judge_core.proofs.Noted.{refusal_there}
use Rattle.go_judge_core.proofs.breaking.has_refusal.Goals as goal

pub returns-then-is_refused : goal.returns-then-is_refused
returns-then-is_refused g c = λ _.
    refusal_there c.args.uses.now c.loop-used.used-index c.used-item.result c.args.offset c.args.rule c.loop-used-test.true c.used-item.is (c.is_refused.ensures c.if-is_refused.true)
