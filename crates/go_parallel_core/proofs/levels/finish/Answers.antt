use Rattle.go_parallel_core.proofs.Telling.{tells_finished}
use Rattle.go_parallel_core.proofs.levels.finish.Goals as goal

pub returns-clause-tells : goal.returns-clause-tells
returns-clause-tells c =
    tells_finished c.args.batch.now c.finish.new.self c.args.place 0 c.in_ok-ending.ending.place c.args.part.now c.in_ok-ending.ending.part c.is_told_once.ensures c.requires c.finish.ensures.slots c.in_ok-ending.ensures.place c.in_ok-ending.ensures.part
