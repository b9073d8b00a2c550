use Rattle.std.proofs.Common.{◌++◌, ap, ◌∙◌}
use Rattle.go_report_core.specs.usage.mirrors.Steps.{said}
use Rattle.go_report_core.proofs.UsageSaid.{reported}
use Rattle.go_report_core.proofs.usage.reporting.report.Goals as goal

pub returns : goal.returns
returns c =
    let faults = c.args.faults.now in
    let answers = c.args.answers.now in
    let first = c.in_ok-extend_from_slice.ensures.items ∙ ap (λ l. l ++ faults) c.new-all.ensures.items in
    let is = c.in_ok-report.ensures in
    reported answers c.deref.result.now faults c.deref-2.result.now c.in_ok-report.report.items
    (c.deref.ensures.value ∙ c.new-none.ensures.items)
    (c.deref-2.ensures.value ∙ (c.in_ok-add_said.ensures ∙ ap (λ l. l ++ said answers) first))
    is.ordered is.kept is.found
