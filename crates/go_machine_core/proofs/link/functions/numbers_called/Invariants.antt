use Rattle.std.proofs.Common.{◌≡◌, ◌+◌, ◌++◌, drop, map}
use Rattle.go_object_core.specs.Objects.{function_shown}
use Rattle.go_machine_core.specs.link.Functions.{numbers_called}
use Rattle.go_machine_core.proofs.link.functions.numbers_called.Given as goal

abbrev pub invariant-loop-place : goal.invariant-loop-place
invariant-loop-place g l =
    numbers_called l.name l.first (map function_shown l.functions) ≡ l.numbers.items ++ numbers_called l.name (l.first + l.place) (map function_shown (drop l.place l.functions))
