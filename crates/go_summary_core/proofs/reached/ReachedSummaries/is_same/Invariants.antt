use Rattle.std.proofs.Common.{◌≡◌, take}
use Rattle.go_summary_core.proofs.reached.ReachedSummaries.is_same.Given as goal

abbrev pub invariant-loop-number : goal.invariant-loop-number
invariant-loop-number l = take l.number l.self ≡ take l.number l.other
