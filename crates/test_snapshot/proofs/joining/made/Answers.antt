use Rattle.test_snapshot.proofs.Fitting.{same_part}
use Rattle.test_snapshot.proofs.joining.made.Goals as goal

pub returns : goal.returns
returns c = same_part c.args.part.now c.input.result.now c.compile_part.result c.one_part.ensures c.requires c.content-content.ensures.made c.input.ensures c.compile_part.ensures.input c.compile_part.ensures.made
