-- The openings and closings of strings and general comments.
use Rattle.std.specs.Prelude.{ℕ, List, [], ◌∷◌}
use Rattle.go_scan_core.specs.declared.enclosed.Enclosure.{Enclosure}
use Rattle.go_scan_core.specs.declared.enclosed.Enclosure.TheVariants.{General, Quoted, Raw}

abbrev pub opening : Enclosure → List ℕ
opening General = 47 ∷ 42 ∷ []
opening Quoted = 34 ∷ []
opening Raw = 96 ∷ []

abbrev pub closing : Enclosure → List ℕ
closing General = 42 ∷ 47 ∷ []
closing Quoted = 34 ∷ []
closing Raw = 96 ∷ []
