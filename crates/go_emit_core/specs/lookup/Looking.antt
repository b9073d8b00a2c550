-- What code asks of the names of a function.
use Rattle.std.specs.Prelude.{ℕ, ◌-◌, nat_eq, List, Option, Some, None, is_some}
use Rattle.std.specs.List.{position_from}
use Rattle.std.specs.Map.{lookup}
use Rattle.go_code_core.specs.declared.fragments.names.Meaning.{Meaning}
use Rattle.go_code_core.specs.declared.fragments.names.Meaning.TheVariants as meanings
use Rattle.go_code_core.specs.fragments.Names.{CodeLooks}

abbrev pub meaning_or_other : Option Meaning → Meaning
meaning_or_other None = meanings.Other
meaning_or_other (Some m) = m

-- what stands at an offset, and its place among the others, from 0: of several at one offset the first
abbrev pub place_at : List (ℕ × Meaning) → ℕ → Option ℕ
place_at items at = position_from (λ e. nat_eq at e.0) 0 items

abbrev pub place_or_zero : Option ℕ → ℕ
place_or_zero None = 0
place_or_zero (Some n) = n

-- by what stands at the offsets of occurrences and of the identifiers of locals, of a function with so many occurrences before its body
abbrev pub looks_with : List (ℕ × Meaning) → List (ℕ × Meaning) → ℕ → CodeLooks
looks_with uses locals before = record {
  meaning = λ at. meaning_or_other (lookup (nat_eq at) uses);
  reference = λ at. place_or_zero (place_at uses at) - before;
  is_new = λ at. is_some (place_at locals at);
}
