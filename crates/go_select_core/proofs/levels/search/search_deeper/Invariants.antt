use Rattle.go_term_core.specs.Shapes.{shape}
use Rattle.go_select_core.specs.levels.mirrors.Ways.{ways}
use Rattle.go_select_core.specs.levels.mirrors.Levels.{height}
use Rattle.go_select_core.proofs.LevelsSearching.{SearchTo}
use Rattle.go_select_core.proofs.levels.search.search_deeper.Given as goal

abbrev pub invariant-levels : goal.invariant-levels
invariant-levels l = SearchTo l.table (shape l.start) l.name l.from l.first l.levels.trails l.levels.types.items l.levels.met l.spelled

abbrev pub decreases-levels : goal.decreases-levels
decreases-levels l = height l.table (shape l.start) l.first (ways l.levels.trails l.levels.types.items) l.levels.met
