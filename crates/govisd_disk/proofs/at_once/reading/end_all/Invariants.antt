use Rattle.std.specs.Vec.Iter.{into_iter_items}
use Rattle.govisd_disk.proofs.AtOnceBatches.{AreEnded}
use Rattle.govisd_disk.proofs.at_once.reading.end_all.Given as goal

abbrev pub invariant-loop-batch : goal.invariant-loop-batch
invariant-loop-batch g l = AreEnded l.read.items (into_iter_items l.batch-iterator) l.fn.batches.items
