use Rattle.go_machine_core.proofs.Taking.{zero_more}
use Rattle.go_machine_core.proofs.slots.slots_with.Goals as goal

pub loop-turn-preserved : goal.loop-turn-preserved
loop-turn-preserved c = zero_more c.args.arguments.items c.loop-turn.arguments.items c.push.new.self.items c.loop-turn._turn c.loop-turn.invariant c.in_ok-push.ensures.items
