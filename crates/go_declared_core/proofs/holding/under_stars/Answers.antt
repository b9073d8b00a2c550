use Rattle.go_term_core.specs.Shapes.{shape}
use Rattle.go_declared_core.proofs.Starring.{star_more}
use Rattle.go_declared_core.proofs.holding.under_stars.Goals as goal

pub loop-star-preserved : goal.loop-star-preserved
loop-star-preserved c = star_more c.loop-star._star (shape c.args.term) (shape c.loop-star.starred) _ c.loop-star.invariant c.in_ok-starred.ensures
