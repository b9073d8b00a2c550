-- The declarations of a text, read without a parser.
use Rattle.std.specs.Char.{is_ascii_alphanumeric}
use Rattle.std.specs.Prelude.{ℕ, suc, ◌==◌, ◌&&◌, ◌||◌, not, Bool, true, false, List, [], ◌∷◌, codes, length, if◌then◌else◌}
use Rattle.go_recovery_core.specs.declared.standin.outline.Lexical.{Lexical}
use Rattle.go_recovery_core.specs.declared.standin.outline.Lexical.TheVariants.{Code, Slash, LineComment, Comment, Star, Text, TextEscape, Rune, RuneEscape, RawText}
use Rattle.go_recovery_core.specs.declared.standin.part.Interval.{Interval}

abbrev pub is_code : Lexical → Bool
is_code Code = true
is_code Slash = false
is_code LineComment = false
is_code Comment = false
is_code Star = false
is_code Text = false
is_code TextEscape = false
is_code Rune = false
is_code RuneEscape = false
is_code RawText = false

-- what stands after a byte in code: a string, a rune, a raw string or maybe a comment begins there, or code goes on
abbrev pub after_code : ℕ → Lexical
after_code b = if b == 34 then Text else if b == 39 then Rune else if b == 96 then RawText else if b == 47 then Slash else Code

-- what stands after a byte of a string or a rune: its quote and the end of the line end it, and a backslash escapes
abbrev pub after_quoted : ℕ → ℕ → Lexical → Lexical → Lexical
after_quoted b quote inside escape = if (b == quote) || (b == 10) then Code else if b == 92 then escape else inside

-- what stands after a byte
abbrev pub after : Lexical → ℕ → Lexical
after Code b = after_code b
after Slash b = if b == 47 then LineComment else if b == 42 then Comment else after_code b
after LineComment b = if b == 10 then Code else LineComment
after Comment b = if b == 42 then Star else Comment
after Star b = if b == 42 then Star else if b == 47 then Code else Comment
after Text b = after_quoted b 34 Text TextEscape
after TextEscape b = after_quoted b 10 Text Text
after Rune b = after_quoted b 39 Rune RuneEscape
after RuneEscape b = after_quoted b 10 Rune Rune
after RawText b = if b == 96 then Code else RawText

abbrev pub is_name_byte : ℕ → Bool
is_name_byte b = is_ascii_alphanumeric b || (b == 95)

abbrev pub is_past_name : List ℕ → Bool
is_past_name [] = true
is_past_name (b ∷ bs) = not (is_name_byte b)

-- bytes begin with a word, and with no more of a name
abbrev pub begins_with : List ℕ → List ℕ → Bool
begins_with [] bytes = is_past_name bytes
begins_with (c ∷ cs) [] = false
begins_with (c ∷ cs) (b ∷ bs) = (b == c) && begins_with cs bs

-- a keyword of the declarations of the package block
abbrev pub is_start : List ℕ → Bool
is_start line = begins_with (codes "func") line || (begins_with (codes "type") line || (begins_with (codes "var") line || (begins_with (codes "const") line || begins_with (codes "import") line)))

-- where declarations start in bytes that stand at an offset, in this state, and at the start of a line or not
abbrev pub starts_from : Lexical → Bool → ℕ → List ℕ → List ℕ
starts_from state first at [] = []
starts_from state first at (b ∷ bs) =
    if (is_code state && first) && is_start (b ∷ bs) then at ∷ starts_from (after state b) (b == 10) (suc at) bs else starts_from (after state b) (b == 10) (suc at) bs

abbrev pub first_or : List ℕ → ℕ → ℕ
first_or [] end = end
first_or (start ∷ starts) end = start

-- the parts that start there, each up to the next one, and the last one up to the end
abbrev pub parts_from : List ℕ → ℕ → List Interval
parts_from [] end = []
parts_from (start ∷ starts) end = record { start = start; end = first_or starts end } ∷ parts_from starts end

-- the declarations of a text
abbrev pub declarations : List ℕ → List Interval
declarations text = parts_from (starts_from Code true 0 text) (length text)
