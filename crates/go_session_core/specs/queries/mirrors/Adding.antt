-- A list with one more item, if there is one.
use Rattle.std.specs.Prelude.{List, [], ◌∷◌, ◌++◌, Option, Some, None}

abbrev pub with_some : {X : Type 0} → List X → Option X → List X
with_some xs None = xs
with_some xs (Some x) = xs ++ x ∷ []
