use Rattle.std.proofs.Common.{◌≡◌, ◌++◌, drop}
use Rattle.go_machine_core.proofs.link.order.add_all.Given as goal

abbrev pub invariant-loop-number : goal.invariant-loop-number
invariant-loop-number l = l.fn.numbers.items ++ l.more ≡ l.numbers.items ++ drop l.number-index l.more
