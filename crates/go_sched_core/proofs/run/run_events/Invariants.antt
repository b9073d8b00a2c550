use Rattle.go_sched_core.specs.Service.{empty}
use Rattle.go_sched_core.specs.Steps.{Run}
use Rattle.go_sched_core.proofs.run.run_events.Given as goal

abbrev pub invariant-loop-event : goal.invariant-loop-event
invariant-loop-event l = Run empty l.yielded l.replies.items l.core
