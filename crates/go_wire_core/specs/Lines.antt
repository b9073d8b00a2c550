-- How bytes are cut into lines.
use Rattle.std.specs.Prelude.{ℕ, List, [], ◌∷◌, Bool, not, ◌==◌, ◌||◌, is_some}
use Rattle.std.specs.List.{slice_split, position}

abbrev pub is_newline : ℕ → Bool
is_newline b = b == 10

-- the lines of bytes, without their newlines; behind the last newline stands a last line, which may be empty
abbrev pub lines : List ℕ → List (List ℕ)
lines = slice_split is_newline

abbrev pub but_last : List (List ℕ) → List (List ℕ)
but_last [] = []
but_last (line ∷ []) = []
but_last (line ∷ next ∷ more) = line ∷ but_last (next ∷ more)

-- the lines that a newline ends
abbrev pub ended_lines : List ℕ → List (List ℕ)
ended_lines bytes = but_last (lines bytes)

-- the most bytes that a line may have
abbrev pub most_bytes : ℕ
most_bytes = 2097152

abbrev pub is_space : ℕ → Bool
is_space b = (b == 32) || (b == 9) || (b == 13)

-- a line of spaces, tabs and carriage returns alone
abbrev pub is_blank : List ℕ → Bool
is_blank line = not (is_some (position (λ b. not (is_space b)) line))
