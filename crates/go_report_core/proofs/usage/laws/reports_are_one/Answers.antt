use Rattle.go_report_core.proofs.Settled.{settled_are_one}
use Rattle.go_report_core.proofs.UsageSaid.{reports_one}
use Rattle.go_report_core.proofs.usage.laws.reports_are_one.Goals as goal

pub returns : goal.returns
returns c = reports_one (settled_are_one _ _)
