use Rattle.std.proofs.Common.{ap, ◌∙◌, not}
use Rattle.go_expr_core.specs.denote_core.CompositeNames.{any_named, inserted}
use Rattle.go_candidate_core.proofs.after_dot.keys.insert.Goals as goal

pub returns-in-Ok-clause-added : goal.returns-in-Ok-clause-added
returns-in-Ok-clause-added c = c.in-Ok.ensures.added ∙ ap not (any_named c.args.name.now c.args.names.now.keys)

pub returns-in-Ok-clause-seen : goal.returns-in-Ok-clause-seen
returns-in-Ok-clause-seen c = inserted c.args.names.now c.insert.new.self c.args.name c.in-Ok.ensures.updates
