-- What string literals stand for.
--
-- The Go specification, "String literals", "Rune literals".
use Rattle.std.specs.Prelude.{◌≡◌, ◌≢◌, ◌⊎◌, ℕ, ◌≤◌, false, List, [], ◌∷◌, ◌++◌, encode_utf8}
use Rattle.go_tree_nodes.specs.token_core.declared.kind.TokenKind.TheVariants as kinds
use Rattle.go_tree_nodes.specs.token_core.Numbers.{number_in}
use Rattle.go_tree_nodes.specs.token_core.Values.{string_value_of}
use Rattle.go_scan_core.specs.declared.enclosed.Enclosure.{Enclosure}
use Rattle.go_scan_core.specs.declared.enclosed.Enclosure.TheVariants.{General, Quoted, Raw}
use Rattle.go_scan_core.specs.Enclosed.{closing, opening}
use Rattle.go_scan_core.specs.Tokens.{AreDigits, AreItems, IsLexeme, IsScalar, is_special, joined}

-- the letter of an escape and the byte that it stands for: a, b, f, n, r, t, v, backslash, quotation mark
abbrev pub IsLetterValue : ℕ → ℕ → Type 0
IsLetterValue letter byte =
    ((letter ≡ 97) × (byte ≡ 7))
    ⊎ (((letter ≡ 98) × (byte ≡ 8))
    ⊎ (((letter ≡ 102) × (byte ≡ 12))
    ⊎ (((letter ≡ 110) × (byte ≡ 10))
    ⊎ (((letter ≡ 114) × (byte ≡ 13))
    ⊎ (((letter ≡ 116) × (byte ≡ 9))
    ⊎ (((letter ≡ 118) × (byte ≡ 11))
    ⊎ (((letter ≡ 92) × (byte ≡ 92))
    ⊎ ((letter ≡ 34) × (byte ≡ 34)))))))))

-- a letter of the table stands for its byte
abbrev pub IsLetterEscape : List ℕ → List ℕ → Type 0
IsLetterEscape w bytes = (letter byte : ℕ) × (w ≡ letter ∷ []) × IsLetterValue letter byte × (bytes ≡ byte ∷ [])

-- three octal digits stand for the byte of their number
abbrev pub IsOctalEscape : List ℕ → List ℕ → Type 0
IsOctalEscape w bytes = AreDigits 8 3 w × (number_in 8 w ≤ 255) × (bytes ≡ number_in 8 w ∷ [])

-- x and two hexadecimal digits stand for the byte of their number
abbrev pub IsHexEscape : List ℕ → List ℕ → Type 0
IsHexEscape w bytes = (ds : List ℕ) × (w ≡ 120 ∷ ds) × AreDigits 16 2 ds × (bytes ≡ number_in 16 ds ∷ [])

-- a letter and so many hexadecimal digits stand for the UTF-8 of the character of their number
abbrev pub IsCharacterEscape : ℕ → ℕ → List ℕ → List ℕ → Type 0
IsCharacterEscape letter n w bytes = (ds : List ℕ) × (w ≡ letter ∷ ds) × AreDigits 16 n ds × IsScalar (number_in 16 ds) × (bytes ≡ encode_utf8 (number_in 16 ds))

-- what stands behind the backslash of an escape, and its bytes: a letter, octal digits, x with two digits, u with four or U with eight
abbrev pub IsEscapeValue : List ℕ → List ℕ → Type 0
IsEscapeValue w bytes =
    IsLetterEscape w bytes
    ⊎ (IsOctalEscape w bytes
    ⊎ (IsHexEscape w bytes
    ⊎ (IsCharacterEscape 117 4 w bytes
    ⊎ IsCharacterEscape 85 8 w bytes)))

-- a character that is not special stands for its UTF-8
abbrev pub IsPlainValue : List ℕ → List ℕ → Type 0
IsPlainValue w bytes = (c : ℕ) × (w ≡ c ∷ []) × (is_special c ≡ false) × (bytes ≡ encode_utf8 c)

-- a backslash and an escape stand for the bytes of the escape
abbrev pub IsEscapedValue : List ℕ → List ℕ → Type 0
IsEscapedValue w bytes = (e : List ℕ) × (w ≡ 92 ∷ e) × IsEscapeValue e bytes

-- a character of a raw string other than a carriage return stands for its UTF-8
abbrev pub IsRawValue : List ℕ → List ℕ → Type 0
IsRawValue w bytes = (c : ℕ) × (w ≡ c ∷ []) × (c ≢ 13) × (bytes ≡ encode_utf8 c)

-- a carriage return of a raw string stands for nothing
abbrev pub IsDropped : List ℕ → List ℕ → Type 0
IsDropped w bytes = (w ≡ 13 ∷ []) × (bytes ≡ [])

-- an item of a string, and its bytes
abbrev pub IsItemValue : Enclosure → List ℕ → List ℕ → Type 0
IsItemValue General w bytes = ⊥
IsItemValue Quoted w bytes = IsPlainValue w bytes ⊎ IsEscapedValue w bytes
IsItemValue Raw w bytes = IsRawValue w bytes ⊎ IsDropped w bytes

-- the bytes of items one behind the other: those of the first, and then those of the others
abbrev pub AreItemValues : Enclosure → List (List ℕ) → List ℕ → Type 0
AreItemValues e [] bytes = bytes ≡ []
AreItemValues e (w ∷ ws) bytes = (first others : List ℕ) × IsItemValue e w first × AreItemValues e ws others × (bytes ≡ first ++ others)

-- the text is an opening, items and the closing, and these are the bytes of the items
abbrev pub IsEnclosedValue : Enclosure → List ℕ → List ℕ → Type 0
IsEnclosedValue e text bytes = (ws : List (List ℕ)) × (text ≡ opening e ++ (joined ws ++ closing e)) × AreItems e ws (closing e) × AreItemValues e ws bytes

-- the text is an interpreted string or a raw one, and stands for these bytes
abbrev pub IsStringValue : List ℕ → List ℕ → Type 0
IsStringValue text bytes = IsEnclosedValue Quoted text bytes ⊎ IsEnclosedValue Raw text bytes

-- what a string literal stands for is what is computed of it
pub record StringValuesAreOne : Type 0 where
  -- each string literal stands for what is computed of it
  pub each : (text : List ℕ) → IsLexeme kinds.String text → IsStringValue text (string_value_of text)
  -- and a text that stands for bytes as a string stands for no others
  pub only : (text bytes : List ℕ) → IsStringValue text bytes → bytes ≡ string_value_of text
