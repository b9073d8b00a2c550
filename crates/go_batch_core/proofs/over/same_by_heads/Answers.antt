use Rattle.go_batch_core.proofs.Samely.{marks_by_heads}
use Rattle.go_batch_core.proofs.over.same_by_heads.Goals as goal

pub returns : goal.returns
returns c = marks_by_heads c.outcomes_stay.ensures c.args.earlier.now c.args.current.now c.args.same.now c.packages-packages.ensures.well c.packages-others.ensures.well c.requires.heads c.requires.same
