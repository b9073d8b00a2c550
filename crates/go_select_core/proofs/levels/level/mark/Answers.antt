use Rattle.std.proofs.Common.{refl}
use Rattle.go_select_core.proofs.LevelsListLemmas.{at_read}
use Rattle.go_select_core.proofs.levels.level.mark.Goals as goal

pub returns : goal.returns
returns c = record { r = c.index_mut-reached.result.now; at = at_read _ _ _ c.requires c.index_mut-reached.ensures.value; is = refl }
