-- The only member of a list.
use Rattle.std.specs.Prelude.{List, [], ◌∷◌, Option, Some, None}

abbrev pub only : {X : Type 0} → List X → Option X
only [] = None
only (x ∷ []) = Some x
only (x ∷ y ∷ more) = None
