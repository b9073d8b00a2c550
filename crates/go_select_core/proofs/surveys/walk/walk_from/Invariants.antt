use Rattle.go_term_core.specs.Shapes.{shape}
use Rattle.go_select_core.specs.levels.mirrors.Ways.{ways}
use Rattle.go_select_core.specs.levels.mirrors.Levels.{height}
use Rattle.go_select_core.specs.mirrors.Names.{names_of}
use Rattle.go_select_core.proofs.Surveying.{NamesTo}
use Rattle.go_select_core.proofs.surveys.walk.walk_from.Given as goal

abbrev pub invariant-levels : goal.invariant-levels
invariant-levels l = NamesTo l.table (shape l.start) l.first l.levels.trails l.levels.types.items l.levels.met (names_of l.names)

abbrev pub decreases-levels : goal.decreases-levels
decreases-levels l = height l.table (shape l.start) l.first (ways l.levels.trails l.levels.types.items) l.levels.met
