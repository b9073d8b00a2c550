use Rattle.std.proofs.Common.{◌∙◌}
use Rattle.go_term_core.proofs.SettlingNames.{any_named}
use Rattle.go_embed_core.proofs.hidden.has_name.Goals as goal

pub returns : goal.returns
returns c = c.contains.ensures ∙ any_named c.args.name.now c.args.names.now.keys
