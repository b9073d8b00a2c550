-- How the flags of constants are kept.
use Rattle.std.specs.Prelude.{Bool, false, ◌&&◌, List, [], ◌∷◌}
use Rattle.go_value_core.specs.Package.{PlacedOf, declares_constant}

-- a flag stays where the declaration is of a constant
abbrev pub constant_flags : List Bool → List PlacedOf → List Bool
constant_flags bs [] = []
constant_flags [] (p ∷ ps) = false ∷ constant_flags [] ps
constant_flags (b ∷ bs) (p ∷ ps) = (b && declares_constant p.decl.form) ∷ constant_flags bs ps
