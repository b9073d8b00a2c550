use Rattle.std.proofs.Common.{map, take}
use Rattle.go_batch_core.specs.seen.Sights.{AreWithReached}
use Rattle.go_parallel_core.specs.Told.{summary_in}
use Rattle.go_parallel_core.proofs.seers.told_all.Given as goal

abbrev pub invariant-loop-part : goal.invariant-loop-part
invariant-loop-part l = AreWithReached l.fn.sight (map summary_in (take l.part-index l.parts)) l.seen
