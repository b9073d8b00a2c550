use Rattle.std.proofs.Common.{◌≡◌, ◌-◌, take}
use Rattle.go_submit_core.specs.Published.{number_of}
use Rattle.go_submit_core.proofs.batches.Batches.number_of.Given as goal

abbrev pub invariant-loop-back : goal.invariant-loop-back
invariant-loop-back l = number_of l.ticket.0 (take (l.count - l.back) l.self) ≡ number_of l.ticket.0 l.self
