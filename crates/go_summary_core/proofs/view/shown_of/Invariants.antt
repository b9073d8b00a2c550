use Rattle.std.proofs.Common.{◌≡◌, take}
use Rattle.go_summary_core.specs.Views.{exports_told}
use Rattle.go_summary_core.proofs.view.shown_of.Given as goal

abbrev pub invariant-loop-summary : goal.invariant-loop-summary
invariant-loop-summary l = l.shown ≡ exports_told (take l.summary-index l.summaries)
