use Rattle.std.proofs.Common.{sym, ◌∙◌}
use Rattle.go_recovery_core.proofs.StandinWords.{begins_short}
use Rattle.go_recovery_core.proofs.standin.outline.begins_with.Goals as goal

pub returns-then-at-bytes : goal.returns-then-at-bytes
returns-then-at-bytes c = sym (begins_short c.args.word.now c.args.bytes.now c.loop-at.at c.loop-at-test.true c.if-at-bytes.true) ∙ c.loop-at.invariant
