use Rattle.test_snapshot.proofs.Fitting.{placed_there}
use Rattle.test_snapshot.proofs.joining.add_made.Goals as goal

pub made-requires : goal.made-requires
made-requires c = placed_there c.args.part.now c.in-Some.part c.in-Some.is c.requires
