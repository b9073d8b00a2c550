-- Types over `bool`, `int` and `string`: identity, assignability and conversions keep what they are over.
--
-- docs/RULES.md, "Operands and operators". The Go specification, "Type identity", "Assignability", "Conversions", "Predeclared identifiers".
use Rattle.std.specs.Prelude.{ℕ, List}
use Rattle.go_body_core.specs.table_core.Entries.{Entry}
use Rattle.go_meaning_laws.specs.handle_core.DecidingRules.{term_rules}
use Rattle.go_workspace_laws.specs.folding.Typed.{KeepBasics}
use Rattle.go_program_laws.specs.checked_sources.Operators.{KeepIdentity}
use Rattle.go_program_laws.specs.checked_sources.Statements.{ArePredeclared}

-- so it is of the types of each table, seen from any package
pub record TypesKeepBasics : Type 0 where
  pub keep : (es : List Entry) (path : List ℕ) → KeepBasics (term_rules es path)
  pub identity : (es : List Entry) (path : List ℕ) → KeepIdentity (term_rules es path)
  pub predeclared : (es : List Entry) (path : List ℕ) → ArePredeclared (term_rules es path)
