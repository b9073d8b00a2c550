use Rattle.std.proofs.Common.{◌≡◌, ◌++◌, drop, map}
use Rattle.go_collections_core.specs.spelling_index.Spelled.{places_of as spelled_places}
use Rattle.go_machine_core.specs.link.mirrors.Numbering.{numbered_path}
use Rattle.go_machine_core.proofs.link.packages.numbers_of_paths.Given as goal

abbrev pub invariant-loop-path : goal.invariant-loop-path
invariant-loop-path l = map (numbered_path (spelled_places l.numbers)) l.paths ≡ l.found.items ++ map (numbered_path (spelled_places l.numbers)) (drop l.path-index l.paths)
