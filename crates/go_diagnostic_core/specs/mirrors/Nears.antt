-- Names with how far they are, as contracts of private functions see them.
use Rattle.std.specs.Prelude.{ℕ, List, Option}
use Rattle.std.specs.Option.{option_map}
use Rattle.go_diagnostic_core.specs.declared.near.Near.{Near}

abbrev pub near_of : Near → List ℕ × ℕ
near_of n = (n.name.now, n.far)

abbrev pub near_shown : Option Near → Option (List ℕ × ℕ)
near_shown found = option_map near_of found
