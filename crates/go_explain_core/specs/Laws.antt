-- Laws of the names of rules, and of what is written of them.
use Rattle.std.specs.Prelude.{◌≡◌, ◌≢◌, ◌==◌, ◌||◌, ℕ, Bool, true, false, not, nat_lt, List, [], ◌∷◌, Some, None, take, filter}
use Rattle.std.specs.List.{list_all, last_or}
use Rattle.std.specs.Option.{option_map_or}
use Rattle.go_text_core.specs.Rules.{rule_number}
use Rattle.go_text_core.specs.declared.rule.Rule.{Rule}
use Rattle.go_explain_core.specs.Examples.{example_of}
use Rattle.go_explain_core.specs.Meanings.{rule_meaning}
use Rattle.go_explain_core.specs.Mendings.{mending_of}
use Rattle.go_explain_core.specs.Naming.{all_rules, named, rule_of_number, near, small}
use Rattle.go_explain_core.specs.Telling.{explained_text, list_line}

-- a rule's number names it
abbrev pub NamesEach : Type 0
NamesEach = (r : Rule) → rule_of_number (rule_number r) ≡ Some r

-- what names a rule is its number, but for whether its letter is large or small
abbrev pub NamesNoOther : Type 0
NamesNoOther = (text : List ℕ) (r : Rule) → rule_of_number text ≡ Some r → small (rule_number r) ≡ small text

-- what names no rule is the number of none
abbrev pub NamesNone : Type 0
NamesNone = (text : List ℕ) → rule_of_number text ≡ None → (r : Rule) → rule_number r ≢ text

-- each rule stands once among all
abbrev pub StandsOnce : Type 0
StandsOnce = (r : Rule) → filter (named (rule_number r)) all_rules ≡ r ∷ []

-- a rule is near its own number
abbrev pub IsNearItself : Type 0
IsNearItself = (r : Rule) → near (rule_number r) r ≡ true

-- the text of a rule begins with what names it
abbrev pub TextsName : Type 0
TextsName = (r : Rule) → rule_of_number (take 2 (explained_text r)) ≡ Some r

-- so does its line in the list of all
abbrev pub LinesName : Type 0
LinesName = (r : Rule) → rule_of_number (take 2 (list_line r)) ≡ Some r

-- two rules that say the same are one
abbrev pub TellApart : (Rule → List ℕ) → Type 0
TellApart said = (r s : Rule) → said r ≡ said s → r ≡ s

-- no byte ends a line
abbrev pub lies_in_a_line : List ℕ → Bool
lies_in_a_line text = list_all (λ b. not (b == 10)) text

-- the last byte ends a line
abbrev pub ends_a_line : List ℕ → Bool
ends_a_line text = option_map_or (λ b. b == 10) (last_or None text) false

-- no byte needs an escape in a string of JSON: none is a quotation mark or a backslash, and none stands below the space
abbrev pub needs_no_escape : List ℕ → Bool
needs_no_escape text = list_all (λ b. not ((b == 34) || ((b == 92) || nat_lt b 32))) text

-- what a rule means lies in a line
abbrev pub MeaningsLieInLines : Type 0
MeaningsLieInLines = (r : Rule) → lies_in_a_line (rule_meaning r) ≡ true

-- it needs no escape, and neither does the rule's number
abbrev pub MeaningsNeedNoEscape : Type 0
MeaningsNeedNoEscape = (r : Rule) → needs_no_escape (rule_meaning r) ≡ true

abbrev pub NumbersNeedNoEscape : Type 0
NumbersNeedNoEscape = (r : Rule) → needs_no_escape (rule_number r) ≡ true

-- an example is lines, and so is the example mended
abbrev pub ExamplesEndLines : Type 0
ExamplesEndLines = (r : Rule) → ends_a_line (example_of r) ≡ true

abbrev pub MendingsEndLines : Type 0
MendingsEndLines = (r : Rule) → ends_a_line (mending_of r) ≡ true

-- the example mended is another text
abbrev pub MendingsDiffer : Type 0
MendingsDiffer = (r : Rule) → mending_of r ≢ example_of r
