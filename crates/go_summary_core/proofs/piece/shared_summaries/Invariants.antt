use Rattle.std.proofs.Common.{◌≡◌, take}
use Rattle.go_summary_core.proofs.piece.shared_summaries.Given as goal

abbrev pub invariant-loop-summary : goal.invariant-loop-summary
invariant-loop-summary l = l.shared.items ≡ take l.summary-index l.summaries
