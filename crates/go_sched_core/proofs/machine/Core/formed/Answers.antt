use Rattle.go_sched_core.proofs.Marking.{steady_formed}
use Rattle.go_sched_core.proofs.machine.Core.formed.Goals as goal

pub returns-clause-steady : goal.returns-clause-steady
returns-clause-steady c = steady_formed c.args.self.now.published c.in_ok-sources-2.sources c.in_ok-batch.batch c.in_ok-planned.steady c.in_ok-planned.ensures.steady c.in_ok-batch.ensures.begun
