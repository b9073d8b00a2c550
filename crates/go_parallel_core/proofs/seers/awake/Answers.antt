use Rattle.go_parallel_core.proofs.Seeing.{awake_all, rest_told, told_rest}
use Rattle.go_parallel_core.proofs.seers.awake.Goals as goal

pub told_all-requires-clause-told : goal.told_all-requires-clause-told
told_all-requires-clause-told c = told_rest c.args.batch.now.parts c.args.made.now c.args.seer.told c.requires.made

pub told_all-requires-clause-seen : goal.told_all-requires-clause-seen
told_all-requires-clause-seen c = rest_told c.args.batch.now.parts c.args.made.now c.args.seer c.requires.rests

pub returns : goal.returns
returns c = awake_all c.args.batch.now.parts c.args.made.now c.args.seer c.in_ok-all.all c.requires.made c.requires.rests c.in_ok-all.ensures
