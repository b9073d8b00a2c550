use Rattle.std.proofs.Common.{subst}
use Rattle.std.specs.Arc.{arc_value}
use Rattle.go_submit_core.specs.Laws.{HaveLastTrees}
use Rattle.go_submit_core.proofs.batches.Batches.have_last_trees.Goals as goal

pub returns : goal.returns
returns c = subst HaveLastTrees c.self.view_is (c.published_trees.ensures.modules (arc_value c.self.inside.list).batches c.self.invariant.trees)
