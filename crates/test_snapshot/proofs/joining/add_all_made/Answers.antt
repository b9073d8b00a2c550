use Rattle.test_snapshot.proofs.Fitting.{placed_at}
use Rattle.test_snapshot.proofs.joining.add_all_made.Goals as goal

pub add_made-requires : goal.add_made-requires
add_made-requires c = placed_at c.args.parts.now c.loop-part.part-index c.part-item.result c.requires c.loop-part-test.true c.part-item.is
