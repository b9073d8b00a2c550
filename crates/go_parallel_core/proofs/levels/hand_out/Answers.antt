use Rattle.go_parallel_core.proofs.Telling.{held_handed}
use Rattle.go_parallel_core.proofs.levels.hand_out.Goals as goal

pub returns-clause-held : goal.returns-clause-held
returns-clause-held c =
    held_handed c.args.batch.now c.hand_out.new.self c.args.place c.in_ok-next.next.place 0 c.in_ok-next.next.input c.in_ok-next.next.awaited c.is_told_once.ensures c.hand_out.ensures c.in_ok-next.ensures.next.awaited c.requires.untaken
    c.in_ok-next.ensures.next.input
