use Rattle.std.proofs.Common.{◌≡◌}
use Rattle.go_submit_core.specs.Modules.{with_trees}
use Rattle.go_sched_core.proofs.rules.add_waiting.Given as goal

abbrev pub invariant-loop-submission : goal.invariant-loop-submission
invariant-loop-submission l = with_trees l.modules.items l.submission-iterator ≡ with_trees l.initial.modules.items l.waiting
