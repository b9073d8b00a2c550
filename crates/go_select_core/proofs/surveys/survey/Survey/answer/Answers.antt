use Rattle.std.proofs.Common.{◌≡◌, None, Err, sym, ◌∙◌, subst}
use Rattle.go_term_core.specs.Shapes.{shape}
use Rattle.go_embed_core.specs.table_core.Entries.{find_entry}
use Rattle.go_select_core.specs.levels.Selectors.{IsSelectorAnswer}
use Rattle.go_select_core.specs.surveys.Surveys.{SurveyOf}
use Rattle.go_select_core.specs.surveys.mirrors.Seen.{seen_of}
use Rattle.go_select_core.specs.surveys.mirrors.Told.{operand_type}
use Rattle.go_select_core.proofs.SurveysTelling.{known_within, answer_known, answer_none}
use Rattle.go_select_core.proofs.surveys.survey.Survey.answer.Goals as goal

pub denoted-requires-clause-within : goal.denoted-requires-clause-within
denoted-requires-clause-within c =
    let s = c.self.inside in
    known_within s.table.now (shape s.term.now) s.from.now s.levels.trails s.levels.types.items s.known.entries s.hidden.keys c.self.invariant c.args.name.now c.in-Some.known (sym (c.in-Some.ensures ∙ c.get.ensures.value))

pub returns-in-Some : goal.returns-in-Some
returns-in-Some c =
    let s = c.self.inside in
    subst (λ (v : SurveyOf). IsSelectorAnswer (find_entry v.entries) (operand_type c.args.by_pointer v.term) c.args.name.now v.from c.denoted.result) c.self.view_is
    (answer_known s.table.now (shape s.term.now) s.from.now s.levels.trails s.levels.types.items s.known.entries s.hidden.keys c.self.invariant c.args.name.now c.in-Some.known c.args.by_pointer c.denoted.result (sym c.eq.ensures ∙ c.if-eq.false) (sym (c.in-Some.ensures ∙ c.get.ensures.value)) c.denoted.ensures)

pub returns-in-None : goal.returns-in-None
returns-in-None c =
    let s = c.self.inside in
    let seen : seen_of s.known.entries c.args.name.now ≡ None = sym (c.in-None.ensures ∙ c.get.ensures.value) in
    subst (λ (v : SurveyOf). IsSelectorAnswer (find_entry v.entries) (operand_type c.args.by_pointer v.term) c.args.name.now v.from (Err c.missing.result)) c.self.view_is
    (answer_none s.table.now (shape s.term.now) s.from.now s.levels.trails s.levels.types.items s.known.entries s.hidden.keys c.self.invariant c.args.name.now c.args.by_pointer c.missing.result (sym c.eq.ensures ∙ c.if-eq.false) seen c.missing.ensures)
