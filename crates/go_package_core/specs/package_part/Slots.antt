-- Those that are there of a list of places.
use Rattle.std.specs.Prelude.{List, [], ◌∷◌, Option, Some, None}
use Rattle.std.specs.List.{flat_map}

abbrev pub if_there : {A : Type 0} → Option A → List A
if_there None = []
if_there (Some x) = x ∷ []

abbrev pub somes : {A : Type 0} → List (Option A) → List A
somes xs = flat_map if_there xs
