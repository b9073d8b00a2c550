use Rattle.go_session_core.proofs.OverlayChanges.{edits_change}
use Rattle.go_session_core.proofs.overlay.laws.edits_change_one_file.Goals as goal

pub returns : goal.returns
returns c = edits_change
