use Rattle.std.proofs.Common.{ap, ◌∙◌, not}
use Rattle.go_term_core.proofs.SettlingNames.{any_named, put_among}
use Rattle.go_term_core.proofs.settling.seen.insert.Goals as goal

pub returns-in-Ok-clause-added : goal.returns-in-Ok-clause-added
returns-in-Ok-clause-added c = c.in-Ok.ensures.added ∙ ap not (any_named c.args.name.now c.args.names.now.keys)

pub returns-in-Ok-clause-seen : goal.returns-in-Ok-clause-seen
returns-in-Ok-clause-seen c = put_among c.args.names.now c.insert.new.self c.args.name c.in-Ok.ensures.updates
