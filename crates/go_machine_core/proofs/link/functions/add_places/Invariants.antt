use Rattle.std.proofs.Common.{◌≡◌, ◌++◌, drop, map}
use Rattle.std.specs.Prelude.{option_map}
use Rattle.go_object_core.specs.Objects.{function_shown}
use Rattle.go_machine_core.specs.link.Functions.{place_shown}
use Rattle.go_machine_core.proofs.link.functions.add_places.Given as goal

abbrev pub invariant-loop-function : goal.invariant-loop-function
invariant-loop-function g l =
    map (option_map place_shown) l.fn.found.items ++ map (λ f. g.P.Places.place_of l.places f.declaration) (map function_shown l.functions)
    ≡ map (option_map place_shown) l.found.items ++ map (λ f. g.P.Places.place_of l.places f.declaration) (map function_shown (drop l.function-index l.functions))
