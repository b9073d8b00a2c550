use Rattle.std.proofs.Common.{◌≡◌, ◌++◌, length, drop, map}
use Rattle.go_collections_core.specs.spelling_index.Spelled.{places_of as spelled_places}
use Rattle.go_object_core.specs.Objects.{object_shown}
use Rattle.go_machine_core.specs.Programs.{linked_shown}
use Rattle.go_machine_core.specs.link.Functions.{all_functions, linked_of}
use Rattle.go_machine_core.specs.link.Packages.{package_shown, packages_from}
use Rattle.go_machine_core.specs.link.mirrors.Numbering.{found_in, numbered_path}
use Rattle.go_machine_core.proofs.link.linking.lay.Given as goal

abbrev pub invariant-loop-object : goal.invariant-loop-object
invariant-loop-object g l = record {
  functions : map (linked_of (λ d. found_in l.numbers.entries (g.P.Places.place_of l.places d))) (all_functions (map object_shown l.objects))
      ≡ map linked_shown l.layout.functions.items ++ map (linked_of (λ d. found_in l.numbers.entries (g.P.Places.place_of l.places d))) (all_functions (map object_shown (drop l.object-index l.objects)));
  packages : packages_from (numbered_path (spelled_places l.paths)) 0 (map object_shown l.objects)
      ≡ map package_shown l.layout.packages.items ++ packages_from (numbered_path (spelled_places l.paths)) (length (map linked_shown l.layout.functions.items)) (map object_shown (drop l.object-index l.objects));
}
