use Rattle.std.proofs.Common.{◌≡◌, ◌++◌, drop, map}
use Rattle.go_object_core.specs.Objects.{function_shown}
use Rattle.go_machine_core.specs.Programs.{linked_shown}
use Rattle.go_machine_core.specs.link.Functions.{linked_of}
use Rattle.go_machine_core.specs.link.mirrors.Numbering.{found_in}
use Rattle.go_machine_core.proofs.link.functions.add_functions.Given as goal

abbrev pub invariant-loop-function : goal.invariant-loop-function
invariant-loop-function g l =
    map linked_shown l.fn.linked.items ++ map (linked_of (λ d. found_in l.numbers.entries (g.P.Places.place_of l.places d))) (map function_shown l.functions)
    ≡ map linked_shown l.linked.items ++ map (linked_of (λ d. found_in l.numbers.entries (g.P.Places.place_of l.places d))) (map function_shown (drop l.function-index l.functions))
