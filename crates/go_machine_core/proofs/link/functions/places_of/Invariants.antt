use Rattle.std.proofs.Common.{◌≡◌, ◌++◌, drop, map}
use Rattle.std.specs.Prelude.{option_map}
use Rattle.go_object_core.specs.Objects.{object_shown}
use Rattle.go_machine_core.specs.link.Functions.{all_functions, place_shown, places_of}
use Rattle.go_machine_core.proofs.link.functions.places_of.Given as goal

abbrev pub invariant-loop-object : goal.invariant-loop-object
invariant-loop-object g l =
    places_of (g.P.Places.place_of l.places) (all_functions (map object_shown l.objects))
    ≡ map (option_map place_shown) l.found.items ++ places_of (g.P.Places.place_of l.places) (all_functions (map object_shown (drop l.object-index l.objects)))
