-- Which of P1 and P2 a text has that is refused.
use Rattle.std.specs.Prelude.{◌≡◌, ℕ, List, Result, Ok, Err}
use Rattle.go_tree_nodes.specs.text_core.declared.rule.Rule.{Rule}
use Rattle.go_tree_nodes.specs.text_core.declared.rule.Rule.TheVariants.{P1, P2}
use Rattle.go_tree_nodes.specs.token_core.declared.token.Token.{Token}
use Rattle.go_scan_core.specs.Tokens.{IsAnswer}
use Rattle.go_tree_nodes.specs.Terminals.{terminals}
use Rattle.go_tree_nodes.specs.declared.files.File.{File}
use Rattle.go_tree_nodes.specs.Trees.{FileTree}
use Rattle.go_parse_reader.specs.types.mirrors.Marks.{Stuck, Grammar, TooHigh}
use Rattle.go_parse_core.specs.declared.error.ParseError.{ParseError}
use Rattle.go_parse_core.specs.declared.error.ParseError.TheVariants as errors
use Rattle.go_parse_core.specs.mirrors.FileReading.{file_at}

-- a text whose tree is too high has P2, unless memory runs out
abbrev pub IsTooHighUnlessMemory : Result (List ℕ) ParseError → Type 0
IsTooHighUnlessMemory (Ok parsed) = ⊥
IsTooHighUnlessMemory (Err errors.Memory) = Unit {0}
IsTooHighUnlessMemory (Err (errors.Fault fault)) = fault.rule ≡ P2

-- A text without a tree has P1 or P2 as the reading of its tokens stops. `file_at` reads them from the left with a limit of height: it
-- stops with `Grammar` at the first token that has no place there, and with `TooHigh` where what begins with the next token, or what
-- that token would make of what was read before it, would be above the limit, whatever stands behind.

-- the rule by which reading stops
abbrev pub IsRuleOf : Result FileTree Stuck → Rule → Type 0
IsRuleOf (Ok f) rule = ⊥
IsRuleOf (Err Grammar) rule = rule ≡ P1
IsRuleOf (Err TooHigh) rule = rule ≡ P2

-- the rule by which the reading of the tokens of the text stops: the parts of a declaration are at most 199 high, and so it is at most 200 itself
abbrev pub IsRuleRead : List ℕ → Rule → Type 0
IsRuleRead text rule = (tokens : List Token) → IsAnswer text (Ok tokens) → IsRuleOf (file_at 199 (terminals text tokens)) rule

-- the reading of a text that has tokens stops by one rule at most
abbrev pub HasOneRule : Type 0
HasOneRule = (text : List ℕ) (tokens : List Token) → IsAnswer text (Ok tokens) → (one other : Rule) → IsRuleRead text one → IsRuleRead text other → one ≡ other

-- a text with tokens that is refused has that rule
abbrev pub IsRefusedAsRead : List ℕ → Result (List ℕ) ParseError → Type 0
IsRefusedAsRead text (Ok parsed) = Unit {0}
IsRefusedAsRead text (Err errors.Memory) = Unit {0}
IsRefusedAsRead text (Err (errors.Fault fault)) = IsRuleRead text fault.rule

-- P2, or want of memory
abbrev pub IsTreeTooHigh : Result File ParseError → Type 0
IsTreeTooHigh (Ok tree) = ⊥
IsTreeTooHigh (Err errors.Memory) = Unit {0}
IsTreeTooHigh (Err (errors.Fault fault)) = fault.rule ≡ P2

-- a fault has the rule by which reading stops
abbrev pub IsTreeRefused : List ℕ → Result File ParseError → Type 0
IsTreeRefused text (Ok tree) = Unit {0}
IsTreeRefused text (Err errors.Memory) = Unit {0}
IsTreeRefused text (Err (errors.Fault fault)) = IsRuleRead text fault.rule
