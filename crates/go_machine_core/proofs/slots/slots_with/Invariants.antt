use Rattle.std.proofs.Common.{◌≡◌, ◌++◌, replicate, pos}
use Rattle.go_machine_core.proofs.slots.slots_with.Given as goal

abbrev pub invariant-loop-turn : goal.invariant-loop-turn
invariant-loop-turn l = l.arguments.items ≡ l.fn.arguments.items ++ replicate l._turn (pos 0)
