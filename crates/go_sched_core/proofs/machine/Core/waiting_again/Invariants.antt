use Rattle.std.proofs.Common.{◌≡◌, ◌++◌}
use Rattle.go_sched_core.proofs.machine.Core.waiting_again.Given as goal

abbrev pub invariant-loop-submission : goal.invariant-loop-submission
invariant-loop-submission l = l.again.items ++ l.submission-iterator ≡ l.self.waiting
