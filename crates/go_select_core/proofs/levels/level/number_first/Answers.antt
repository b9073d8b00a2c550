use Rattle.go_select_core.proofs.LevelsWayLemmas.{right_none, right_first}
use Rattle.go_select_core.proofs.levels.level.number_first.Goals as goal

pub returns : goal.returns
returns c = right_none _ _ _ c.new-met.ensures

pub returns-in-Some : goal.returns-in-Some
returns-in-Some c = right_first _ _ c.in-Some.number _ _ c.new-met.ensures c.in-Some.ensures c.in_ok-add.ensures
