use Rattle.std.proofs.Common.{◌≡◌, take}
use Rattle.std.specs.Map.{keys_of}
use Rattle.go_graph_core.specs.mirrors.Placed.{placed}
use Rattle.go_graph_core.proofs.path_table.places_of.Given as goal

abbrev pub invariant-loop-place : goal.invariant-loop-place
invariant-loop-place l = l.places.names ≡ placed 0 (keys_of (take l.place l.packages))
