-- How a survey is stored, so that a model may hold one.
use Rattle.std.specs.Prelude.{refl, ℕ, List}
use Rattle.std.specs.Coded.{Coded, code_by, coded×, coded_list, coded_ℕ}
use Rattle.go_term_core.specs.Terms.{Term}
use Rattle.go_term_core.specs.codes.TermCodes.{coded_term}
use Rattle.go_embed_core.specs.table_core.Entries.{Entry}
use Rattle.go_embed_core.specs.table_core.codes.EntryCodes.{coded_entry}
use Rattle.go_select_core.specs.surveys.Surveys.{SurveyOf, survey_of}

abbrev pub coded_survey : Coded SurveyOf
coded_survey = code_by (List Entry × (Term × List ℕ)) (coded× (coded_list coded_entry) (coded× coded_term (coded_list coded_ℕ))) (λ s. (s.entries, (s.term, s.from))) (λ p. survey_of p.0 p.1.0 p.1.1) (λ _. refl)
