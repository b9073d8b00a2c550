use Rattle.std.proofs.Common.{refl}
use Rattle.go_select_core.proofs.LevelsWayLemmas.{begins}
use Rattle.go_select_core.proofs.levels.level.Levels.begin.Goals as goal

pub returns : goal.returns
returns c = begins _ _ _ c.new-types.result.items _ _ _ c.new.ensures c.new-types.ensures.items c.in_ok-push.ensures.items refl c.in_ok-met.ensures
