use Rattle.std.specs.Vec.Iter.{into_iter_items}
use Rattle.govisd_disk.proofs.AtOnceBatches.{AreCut}
use Rattle.govisd_disk.proofs.at_once.reading.begin_all.Given as goal

abbrev pub invariant-loop-file : goal.invariant-loop-file
invariant-loop-file g l = AreCut l.batches.items l.next.items (into_iter_items l.file-iterator) l.fn.files.items
