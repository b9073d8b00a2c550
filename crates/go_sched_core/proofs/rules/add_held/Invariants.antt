use Rattle.std.proofs.Common.{◌≡◌, take}
use Rattle.go_sched_core.specs.Service.{with_held}
use Rattle.go_sched_core.proofs.rules.add_held.Given as goal

abbrev pub invariant-loop-one : goal.invariant-loop-one
invariant-loop-one l = l.modules.items ≡ with_held l.initial.modules.items (take l.one-index l.held)
