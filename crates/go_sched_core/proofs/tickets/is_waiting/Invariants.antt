use Rattle.std.proofs.Common.{◌≡◌}
use Rattle.go_submit_core.specs.Submitted.{has_ticket}
use Rattle.go_sched_core.proofs.tickets.is_waiting.Given as goal

abbrev pub invariant-loop-submission : goal.invariant-loop-submission
invariant-loop-submission l = has_ticket l.ticket l.submission-iterator ≡ has_ticket l.ticket l.waiting
