-- What is said beside the answer.
use Rattle.std.specs.Prelude.{◌≡◌, ◌+◌, ◌/◌, ◌%◌, ℕ, Bool, true, false, List, [], ◌∷◌, ◌++◌, ◌==◌, ◌&&◌, ◌||◌, codes, decimal, encode_utf8, flat_map, nat_lt, if◌then◌else◌}
use Rattle.std.specs.List.{list_any}
use Rattle.std.specs.declared.io.ErrorKind.{ErrorKind}
use Rattle.std.specs.declared.io.ErrorKind.TheVariants.{OutOfMemory}
use Rattle.go_path_core.specs.text_core.Rules.{rule_number}
use Rattle.go_path_core.specs.text_core.declared.rule.Rule.{Rule}
use Rattle.go_explain_core.specs.Meanings.{rule_meaning}

-- a byte of a control character, and one that stands for itself in quotation marks
abbrev pub is_control : ℕ → Bool
is_control b = nat_lt b 32 || (b == 127)

abbrev pub stands_plain : ℕ → Bool
stands_plain b = if nat_lt b 32 then false else (if nat_lt 126 b then false else (if b == 34 then false else (if b == 92 then false else true)))

-- any other one is written as `\x1b`
abbrev pub hex_digit : ℕ → ℕ
hex_digit n = if nat_lt n 10 then 48 + n else 87 + n

abbrev pub name_byte : ℕ → List ℕ
name_byte b = if stands_plain b then encode_utf8 b else codes "\\x" ++ encode_utf8 (hex_digit (b / 16)) ++ encode_utf8 (hex_digit (b % 16))

-- a name as it is told: where it has a control character, in quotation marks
abbrev pub quoted_name : List ℕ → List ℕ
quoted_name name = codes "\"" ++ flat_map name_byte name ++ codes "\""

abbrev pub told_name : List ℕ → List ℕ
told_name name = if list_any is_control name then quoted_name name else name

-- what is wrong with what lies at a path
abbrev pub note_line : List ℕ → List ℕ → List ℕ
note_line path what = codes "govisd: " ++ told_name path ++ codes ": " ++ what ++ codes "\n"

-- a name as it is said: two quotation marks stand for that of no bytes
abbrev pub name_or_quotes : List ℕ → List ℕ
name_or_quotes [] = codes "\"\""
name_or_quotes (b ∷ bs) = b ∷ bs

-- memory was wanting
abbrev pub wants_memory : ErrorKind → Bool
wants_memory OutOfMemory = true
wants_memory _ = false

-- it is said why what lies at a path cannot be read, which is not that memory was wanting
pub record SaysUnread (path : List ℕ) (kind : ErrorKind) (old new : List ℕ) : Type 0 where
  pub other : wants_memory kind ≡ false
  pub why : List ℕ
  pub is : new ≡ old ++ note_line path why

-- what lies at a path breaks a rule
abbrev pub refusal_line : List ℕ → Rule → List ℕ
refusal_line path rule = codes "govisd: " ++ told_name path ++ codes ": " ++ rule_number rule ++ codes " " ++ rule_meaning rule ++ codes "\n"

-- nothing was passed over
abbrev pub none_passed : ℕ → ℕ → Bool
none_passed files folders = (files == 0) && (folders == 0)

-- how many Go files and folders were passed over by their names
abbrev pub counts_line : ℕ → ℕ → List ℕ
counts_line files folders = codes "govisd: passed over by name: Go files " ++ decimal files ++ codes ", folders " ++ decimal folders ++ codes "\n"

-- the same, where there are any
abbrev pub passed_line : ℕ → ℕ → List ℕ
passed_line files folders = if none_passed files folders then [] else counts_line files folders
