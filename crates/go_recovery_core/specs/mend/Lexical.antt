-- What is said of a fault of a token.
use Rattle.std.specs.Prelude.{ℕ, ◌||◌, nat_eq, List, [], ◌∷◌, ◌++◌, codes, take, drop, slice_range, Option, None, Some, if◌then◌else◌}
use Rattle.std.specs.Str.{chars}
use Rattle.go_tree_nodes.specs.text_core.Boundaries.{is_boundary_of}
use Rattle.go_tree_nodes.specs.text_core.declared.rule.Rule.{Rule}
use Rattle.go_tree_nodes.specs.text_core.declared.rule.Rule.TheVariants.{L1, L2, L3}
use Rattle.go_recovery_core.specs.declared.mend.flaw.Lexical.{Lexical}
use Rattle.go_recovery_core.specs.declared.mend.flaw.LexicalCause.{LexicalCause}
use Rattle.go_recovery_core.specs.declared.mend.flaw.LexicalCause.TheVariants as causes
use Rattle.go_recovery_core.specs.mend.Mended.{is_cut}
use Rattle.go_recovery_core.specs.mend.Numbers.{number_cause, number_len}
use Rattle.go_recovery_core.specs.mend.Said.{is_shown}

abbrev pub cause_words : LexicalCause → List ℕ
cause_words (causes.NoToken c) = codes "this character begins no token"
cause_words causes.ByteOrderMark = codes "a byte order mark stands at the start of a text alone"
cause_words causes.Nul = codes "a NUL character stands in no text"
cause_words causes.OpenString = codes "this string has no end on its line"
cause_words causes.OpenRawString = codes "this raw string has no closing backquote"
cause_words causes.OpenComment = codes "this comment has no */"
cause_words causes.Rune = codes "rune literals: Go has them, govisd does not support them yet"
cause_words causes.Float = codes "floating-point numbers: Go has them, govisd does not support them yet"
cause_words causes.Imaginary = codes "imaginary numbers: Go has them, govisd does not support them yet"
cause_words causes.TooLarge = codes "this number is above 9223372036854775807"
cause_words causes.OctalDigit = codes "an octal number has the digits 0 to 7"
cause_words causes.Malformed = codes "this is no integer literal"
cause_words causes.Escape = codes "this is no escape"

-- what helps where a character begins no token: `#`, `?`, and quotation marks of prose
abbrev pub character_help : ℕ → Option (List ℕ)
character_help c =
    if nat_eq c 35 then Some (codes "Go's comments begin with //")
    else if nat_eq c 63 then Some (codes "Go has no ?: operator: write an if")
    else if nat_eq c 8220 || nat_eq c 8221 then Some (codes "Go's strings stand between \" and \"")
    else None

abbrev pub cause_help : LexicalCause → Option (List ℕ)
cause_help (causes.NoToken c) = character_help c
cause_help causes.Escape = Some (codes "write \\\\ for a backslash, or use a raw string")
cause_help _ = None

-- the bytes between two offsets, where these are a piece of the text
abbrev pub piece_of : List ℕ → ℕ → ℕ → Option (List ℕ)
piece_of text from to = if is_cut text from to then Some (slice_range text from to) else None

abbrev pub said_of : Option (List ℕ) → List ℕ → List ℕ
said_of (Some spelled) words = if is_shown spelled then spelled ++ (codes ": " ++ words) else words
said_of None words = words

abbrev pub flaw_text : List ℕ → Lexical → List ℕ
flaw_text text l = said_of (piece_of text l.from l.to) (cause_words l.cause)

-- what stands from an offset on, and nothing where that is no place between characters
abbrev pub rest_of : List ℕ → ℕ → List ℕ
rest_of text offset = if is_boundary_of text offset then drop offset text else []

-- U+FEFF, U+0000, or another character
abbrev pub character_cause : ℕ → LexicalCause
character_cause c = if nat_eq c 65279 then causes.ByteOrderMark else if nat_eq c 0 then causes.Nul else causes.NoToken c

abbrev pub first_cause : List ℕ → Option LexicalCause
first_cause [] = None
first_cause (c ∷ cs) = Some (character_cause c)

-- by the byte that it begins with: `"`, a backquote, or `/`
abbrev pub open_cause : ℕ → Option LexicalCause
open_cause b =
    if nat_eq b 34 then Some causes.OpenString
    else if nat_eq b 96 then Some causes.OpenRawString
    else if nat_eq b 47 then Some causes.OpenComment
    else None

abbrev pub open_at : List ℕ → Option LexicalCause
open_at [] = None
open_at (b ∷ bs) = open_cause b

abbrev pub front_cause : List ℕ → LexicalCause
front_cause rest = number_cause (take (number_len rest) rest)

-- by the byte that it begins with: an apostrophe, `"`, or another one
abbrev pub literal_cause : ℕ → List ℕ → LexicalCause
literal_cause b rest = if nat_eq b 39 then causes.Rune else if nat_eq b 34 then causes.Escape else front_cause rest

abbrev pub literal_at : List ℕ → Option LexicalCause
literal_at [] = None
literal_at (b ∷ bs) = Some (literal_cause b (b ∷ bs))

-- why the text has a fault of a rule from here on
abbrev pub cause_of : Rule → List ℕ → Option LexicalCause
cause_of L1 rest = first_cause (chars rest)
cause_of L2 rest = open_at rest
cause_of L3 rest = literal_at rest
cause_of _ rest = None
