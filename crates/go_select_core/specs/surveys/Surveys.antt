-- A survey, as contracts see it.
use Rattle.std.specs.Prelude.{ℕ, List}
use Rattle.go_term_core.specs.Terms.{Term}
use Rattle.go_embed_core.specs.table_core.Entries.{Entry}

-- of a type in a table, for selectors that are written in the package of a path
pub record SurveyOf : Type 0 where
  pub entries : List Entry
  pub term : Term
  pub from : List ℕ

abbrev pub survey_of : List Entry → Term → List ℕ → SurveyOf
survey_of es t path = record { entries = es; term = t; from = path }
