use Rattle.std.specs.Vec.Iter.{into_iter_items}
use Rattle.govisd_disk.proofs.AtOnceBatches.{ended_more}
use Rattle.govisd_disk.proofs.at_once.reading.end_all.Goals as goal

pub loop-batch-preserved : goal.loop-batch-preserved
loop-batch-preserved g c =
    ended_more c.loop-batch.read.items c.append.new.self.items c.in_ok-files.files.items (into_iter_items c.loop-batch.batch-iterator) (into_iter_items c.next.new.self) c.args.batches.items c.in-Some.batch c.loop-batch.invariant
    c.in-Some.ensures.steps.0 c.in_ok-files.ensures c.in_ok-append.ensures.items
