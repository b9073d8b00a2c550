use Rattle.std.proofs.Common.{nat_eq, refl, sym, ap, set, ◌∙◌}
use Rattle.std.proofs.lemmas.List.Edits.{map_over_more}
use Rattle.std.specs.HashSet.{contains}
use Rattle.go_report_core.specs.usage.Used.{judged_import}
use Rattle.go_report_core.specs.usage.mirrors.Steps.{judged_by}
use Rattle.go_report_core.proofs.UsagePlaces.{judged_alike}
use Rattle.go_report_core.proofs.usage.unused.judge_all.Goals as goal

pub loop-answer-preserved : goal.loop-answer-preserved
loop-answer-preserved c =
    let places = c.args.places.now in
    let stands = contains nat_eq places in
    let n = c.loop-answer.answer-index in
    let judged = c.judge.ensures ∙ (ap (judged_by stands) (sym c.answer-item.is) ∙ judged_alike stands places.keys (λ at. refl) c.answer-item.result) in
    ap (set c.loop-answer.answers n) judged
    ∙ map_over_more (judged_import places.keys) c.args.answers.now c.loop-answer.answers n c.answer-item.result c.loop-answer-test.true c.loop-answer.invariant c.answer-item.is
