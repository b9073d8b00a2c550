use Rattle.std.proofs.Common.{◌≡◌, take}
use Rattle.std.specs.List.{filter_map}
use Rattle.go_snap_core.specs.make.mirrors.Telling.{at_number}
use Rattle.go_snap_core.proofs.make.told.places_of.Given as goal

abbrev pub invariant-loop-number : goal.invariant-loop-number
invariant-loop-number l = l.found.items ≡ filter_map (at_number l.places) (take l.number-index l.numbers)
