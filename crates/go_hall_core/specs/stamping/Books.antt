-- The book of a stamper, and what a step tells.
use Rattle.std.specs.Prelude.{◌≡◌, ℕ, ◌==◌, true, List, [], ◌∷◌, length, Some, MatchBool, slice_get}
use Rattle.logbook.specs.Pages.{Book, Cell, Named, Step, View}

-- the first word is the number of values. A book has two words, of which this one leaves the second at 0
abbrev pub IsCounted : {T : Type 0} → List Cell → List T → Type 0
IsCounted cells log = cells ≡ (length log, true) ∷ (0, true) ∷ []

-- the first word of a book
abbrev pub head_of : Book → Named
head_of b = record { tracked = true; key = 0; book = b }

-- where the number that was found is the one expected, the value has it
abbrev pub Adds : {T : Type 0} → Step T → View T ℕ → ℕ → View T ℕ → Type 0
Adds s v found w = MatchBool (found == s.old) (slice_get w.0 s.old ≡ Some s.ask) (Unit {0})
