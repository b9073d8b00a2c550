use Rattle.go_select_core.proofs.LevelsWayLemmas.{PathTo}
use Rattle.go_select_core.proofs.levels.trails.Trails.path.Given as goal

abbrev pub invariant-links : goal.invariant-links
invariant-links l = PathTo l.self-inside.links.items l.number l.at l.steps.items

abbrev pub decreases-links : goal.decreases-links
decreases-links l = l.at
