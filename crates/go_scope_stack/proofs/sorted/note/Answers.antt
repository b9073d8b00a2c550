use Rattle.go_scope_stack.proofs.Names.{put_listed}
use Rattle.go_scope_stack.proofs.sorted.note.Goals as goal

pub returns-in-Ok-clause-ok : goal.returns-in-Ok-clause-ok
returns-in-Ok-clause-ok c = put_listed c.args.known.now c.insert.new.self c.args.name c.in-Ok.ensures.updates
