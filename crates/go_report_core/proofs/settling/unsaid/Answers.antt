use Rattle.std.proofs.Common.{◌∙◌, ap, filter}
use Rattle.std.proofs.lemmas.Result.{IfOk-weaker}
use Rattle.go_report_core.specs.mirrors.Settling.{is_new}
use Rattle.go_report_core.proofs.Settled.{unsaid_kept}
use Rattle.go_report_core.proofs.settling.unsaid.Goals as goal

pub returns : goal.returns
returns g c =
    let faults = c.args.faults.now in
    IfOk-weaker c.new_faults.result _ _
    (λ kept is. unsaid_kept c.args.uses.now faults c.in_ok-said.said.items c.sort.new.faults.items kept.items c.in_ok-said.ensures c.sort.ensures.moved (is ∙ ap (λ l. filter (is_new l) faults) c.as_slice.ensures.value))
    c.new_faults.ensures
