use Rattle.go_select_core.specs.levels.mirrors.Ways.{ways}
use Rattle.go_select_core.proofs.LevelsGrowing.{NextTo}
use Rattle.go_select_core.proofs.levels.level.expand.Given as goal

abbrev pub invariant-types : goal.invariant-types
invariant-types l = NextTo l.table l.first (ways l.fn.levels.trails l.fn.levels.types.items) l.fn.levels.met l.a 0 l.levels.trails l.levels.types.items l.levels.met

abbrev pub invariant-fields : goal.invariant-fields
invariant-fields l = NextTo l.table l.first (ways l.fn.levels.trails l.fn.levels.types.items) l.fn.levels.met l.a l.i l.levels.trails l.levels.types.items l.levels.met
