use Rattle.std.proofs.Common.{ap, ◌∙◌}
use Rattle.std.specs.Prelude.{option_map}
use Rattle.std.proofs.lemmas.Result.{IfErr-weaker, IfOk-weaker}
use Rattle.go_summary_core.specs.Summaries.{SummaryModel}
use Rattle.go_term_core.specs.Shapes.{shape}
use Rattle.go_type_doc_core.proofs.Behind.{plain_none, plain_shown}
use Rattle.go_type_doc_core.proofs.naming.plain_shown_type.Goals as goal

pub returns-in-Ok-clause-ok : goal.returns-in-Ok-clause-ok
returns-in-Ok-clause-ok c =
    let same = c.faces.ensures ∙ ap (λ (s : SummaryModel). s.faces) c.summary.ensures in
    IfOk-weaker c.type_shown.result _ _ (λ t h. plain_shown c.args.part.now c.args.name.now c.requires c.faces.result.now same c.in-Ok.shown c.in-Ok.ensures (option_map shape t) h) c.type_shown.ensures.ok

pub returns-in-Ok-clause-err : goal.returns-in-Ok-clause-err
returns-in-Ok-clause-err c =
    let same = c.faces.ensures ∙ ap (λ (s : SummaryModel). s.faces) c.summary.ensures in
    IfErr-weaker c.type_shown.result _ _ (λ rule h. plain_none c.args.part.now c.args.name.now c.requires c.faces.result.now same c.in-Ok.shown c.in-Ok.ensures rule h) c.type_shown.ensures.err
