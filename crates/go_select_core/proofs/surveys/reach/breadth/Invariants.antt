use Rattle.std.specs.Prelude.{◌≡◌, length}
use Rattle.go_select_core.specs.levels.mirrors.Ways.{ways, IsRight}
use Rattle.go_select_core.proofs.surveys.reach.breadth.Given as goal

abbrev pub invariant-levels : goal.invariant-levels
invariant-levels l = (length l.levels.trails ≡ length l.levels.types.items) × IsRight l.table (ways l.levels.trails l.levels.types.items) l.levels.met
