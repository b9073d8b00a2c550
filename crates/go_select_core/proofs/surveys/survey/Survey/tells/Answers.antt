use Rattle.std.proofs.Common.{subst}
use Rattle.std.proofs.lemmas.Bool.{OnTrue_at, OnTrue_from}
use Rattle.go_term_core.specs.Shapes.{shape}
use Rattle.go_embed_core.specs.table_core.Entries.{find_entry}
use Rattle.go_select_core.specs.surveys.Surveys.{SurveyOf}
use Rattle.go_select_core.specs.surveys.Sole.{HasSameAnswers}
use Rattle.go_select_core.proofs.SurveysAlike.{same_answers}
use Rattle.go_select_core.proofs.surveys.survey.Survey.tells.Goals as goal

pub returns : goal.returns
returns c =
    OnTrue_from c.is_alike.result _ (λ on.
    let s = c.self.inside in
    subst (λ (v : SurveyOf). HasSameAnswers (find_entry v.entries) v.term (shape c.args.term.now) c.args.name.now v.from) c.self.view_is
    (same_answers (find_entry s.table.now) c.args.name.now s.from.now (shape s.term.now) (shape c.args.term.now) c.self.invariant.plain (OnTrue_at on c.is_alike.ensures)))
