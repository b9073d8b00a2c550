use Rattle.std.proofs.Common.{map, ap, ◌∙◌}
use Rattle.std.specs.Prelude.{filter, string_bytes}
use Rattle.std.proofs.lemmas.Result.{IfOk-weaker}
use Rattle.go_cursor_core.specs.scope_stack.Blocks.{names_in}
use Rattle.go_summary_core.specs.shown.Shown.{texts}
use Rattle.go_candidate_core.specs.fitting.mirrors.Steps.{fits_name}
use Rattle.go_candidate_core.proofs.FittingFits.{each_answered}
use Rattle.go_candidate_core.proofs.fitting.behind.answered.Goals as goal

pub returns-clause-each : goal.returns-clause-each
returns-clause-each c =
    IfOk-weaker c.owned.result _ _
    (λ found h. each_answered (map string_bytes found.items) (texts c.in_order.new.names.items) (texts c.in_ok-kept.kept.items) (filter (fits_name c.args.summary.now.faces c.args.usage) (names_in c.args.summary.now.exports.names)) (h ∙ ap texts c.deref.ensures.value)
    c.in_order.ensures.same c.in_ok-kept.ensures) c.owned.ensures
