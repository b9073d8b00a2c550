-- What single characters are, and the first of a text.
use Rattle.std.specs.Prelude.{false, ℕ, Bool, not, ◌==◌, ◌||◌, List, [], ◌∷◌}
use Rattle.go_text_core.specs.Text.{letter, digit}

-- the first character passes
abbrev pub first_passes : (ℕ → Bool) → List ℕ → Bool
first_passes p [] = false
first_passes p (c ∷ cs) = p c

-- a white-space character within a line: space, tab, carriage return
abbrev pub is_space : ℕ → Bool
is_space c = (c == 32) || (c == 9) || (c == 13)

-- a character that may stand nowhere: NUL, a byte order mark
abbrev pub is_forbidden : ℕ → Bool
is_forbidden c = (c == 0) || (c == 65279)

abbrev pub letter_or_digit : ℕ → Bool
letter_or_digit c = letter c || digit c

-- what may not stand behind a number
abbrev pub continues : ℕ → Bool
continues c = letter_or_digit c || (c == 46)

-- what may stand in a line comment: all but the end of a line and what may stand nowhere
abbrev pub in_line : ℕ → Bool
in_line c = not ((c == 10) || is_forbidden c)
