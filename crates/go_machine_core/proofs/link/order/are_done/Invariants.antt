use Rattle.std.proofs.Common.{◌≡◌, drop}
use Rattle.go_machine_core.specs.link.Order.{are_done}
use Rattle.go_machine_core.proofs.link.order.are_done.Given as goal

abbrev pub invariant-loop-number : goal.invariant-loop-number
invariant-loop-number l = are_done l.done l.numbers ≡ are_done l.done (drop l.number-index l.numbers)
