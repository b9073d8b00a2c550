use Rattle.std.proofs.Common.{◌≡◌, take}
use Rattle.go_submit_core.proofs.piece.shared_batches.Given as goal

abbrev pub invariant-loop-batch : goal.invariant-loop-batch
invariant-loop-batch l = l.shared.items ≡ take l.batch-index l.batches
