use Rattle.std.proofs.Common.{◌≡◌, drop, map}
use Rattle.std.specs.Prelude.{option_map}
use Rattle.std.specs.List.{position_from}
use Rattle.go_machine_core.specs.declared.link.places.Place.{Place}
use Rattle.go_machine_core.specs.link.Functions.{is_at, place_shown}
use Rattle.go_machine_core.specs.link.mirrors.Numbering.{found_key}
use Rattle.go_machine_core.proofs.link.numbers.numbers_of.Given as goal

abbrev pub invariant-loop-number : goal.invariant-loop-number
invariant-loop-number l = (k : Place) → found_key k l.numbers.entries ≡ position_from (is_at (place_shown k)) l.number (map (option_map place_shown) (drop l.number l.places))
