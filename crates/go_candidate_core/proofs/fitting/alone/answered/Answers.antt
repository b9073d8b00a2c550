use Rattle.std.proofs.Common.{map, ap, ◌∙◌}
use Rattle.std.specs.Prelude.{filter, string_bytes}
use Rattle.std.proofs.lemmas.Result.{IfOk-weaker}
use Rattle.go_summary_core.specs.shown.Shown.{texts}
use Rattle.go_summary_core.specs.Views.{faces_told}
use Rattle.go_candidate_core.specs.fitting.Fitting.{fits_alone}
use Rattle.go_candidate_core.proofs.FittingFits.{each_answered}
use Rattle.go_candidate_core.proofs.fitting.alone.answered.Goals as goal

pub returns-clause-each : goal.returns-clause-each
returns-clause-each c =
    IfOk-weaker c.owned.result _ _
    (λ found h. each_answered (map string_bytes found.items) (texts c.in_order.new.names.items) (texts c.in_ok-kept.kept.items) (filter (fits_alone c.args.scopes.now (faces_told c.args.reached.now) c.args.stand) (texts c.args.names.now)) (h ∙ ap texts c.deref.ensures.value)
    c.in_order.ensures.same c.in_ok-kept.ensures) c.owned.ensures
