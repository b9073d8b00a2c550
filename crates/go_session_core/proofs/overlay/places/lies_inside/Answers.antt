use Rattle.go_session_core.proofs.OverlayPrefixes.{inside_is}
use Rattle.go_session_core.proofs.overlay.places.lies_inside.Goals as goal

pub returns : goal.returns
returns c = inside_is c.args.own.now c.args.path.now c.contains.result c.contains.ensures
