use Rattle.go_parallel_core.proofs.Seeing.{beside_done}
use Rattle.go_parallel_core.proofs.shares.compile_here.Goals as goal

pub returns-clause-sound : goal.returns-clause-sound
returns-clause-sound c =
    let made = c.in_ok-done.done in
    beside_done c.args.batch.now.parts c.args.sight c.args.inputs.items made.parts.items made.sight c.requires.told c.in_ok-done.ensures
