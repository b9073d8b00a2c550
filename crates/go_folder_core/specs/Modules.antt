-- The line of a `go.mod` that names its module.
use Rattle.std.specs.Prelude.{◌≡◌, ◌≢◌, ◌⊎◌, ◌<◌, ◌+◌, ℕ, List, [], ◌∷◌, ◌++◌, length, Option, Some, None, codes}
use Rattle.std.specs.Char.{is_whitespace, is_not_whitespace}
use Rattle.std.specs.Str.{NoCharPasses}
use Rattle.std.specs.Str.Lines.{IsFirstLine}

-- white space alone
abbrev pub HasNoWord : List ℕ → Type 0
HasNoWord text = NoCharPasses is_not_whitespace text

-- the first word of a text, and what stands behind it
pub record IsFirstWord (text word rest : List ℕ) : Type 0 where
  pub gap : List ℕ
  pub is : text ≡ gap ++ (word ++ rest)
  pub some : 0 < length word
  pub blank : NoCharPasses is_not_whitespace gap
  pub solid : NoCharPasses is_whitespace word

abbrev pub module_word : List ℕ
module_word = codes "module"

-- the second word of a line whose first is `module`; or the line has no word, or another first one, or no second
pub data IsModuleWord (line : List ℕ) : Option (List ℕ) → Type 0 where
  IsBlank : HasNoWord line → IsModuleWord line None
  IsOther : (word rest : List ℕ) → IsFirstWord line word rest → word ≢ module_word → IsModuleWord line None
  IsAlone : (rest : List ℕ) → IsFirstWord line module_word rest → HasNoWord rest → IsModuleWord line None
  IsNamed : (rest path behind : List ℕ) → IsFirstWord line module_word rest → IsFirstWord rest path behind → IsModuleWord line (Some path)
