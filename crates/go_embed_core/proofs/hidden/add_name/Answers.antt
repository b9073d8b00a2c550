use Rattle.go_term_core.proofs.SettlingNames.{put_among}
use Rattle.go_embed_core.proofs.hidden.add_name.Goals as goal

pub returns-in-Ok : goal.returns-in-Ok
returns-in-Ok c = put_among c.args.names.now c.insert.new.self c.args.name c.in-Ok.ensures.updates
