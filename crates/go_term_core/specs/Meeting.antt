-- Lines, or terms, of two types that meet where both are gone over at once.
use Rattle.std.specs.Prelude.{◌≡◌, Option, Some}
use Rattle.go_term_core.specs.declared.same.LinePair.{LinePair}

-- these two met last
abbrev pub IsMet : Option LinePair → LinePair → Type 0
IsMet met pair = met ≡ Some pair
