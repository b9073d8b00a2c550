use Rattle.std.proofs.Common.{◌≡◌, take}
use Rattle.go_summary_core.proofs.reached.ReachedSummaries.list.Given as goal

abbrev pub invariant-loop-number : goal.invariant-loop-number
invariant-loop-number l = l.summaries.items ≡ take l.number l.self
