use Rattle.go_graph_core.specs.Workspaces.{files_at}
use Rattle.go_session_core.proofs.OverlayTexts.{no_files}
use Rattle.go_session_core.proofs.overlay.draft.files_left.Goals as goal

pub returns-in-None-clause-order : goal.returns-in-None-clause-order
returns-in-None-clause-order c = no_files (files_at c.args.packages.now c.args.path.now) c.in-None.ensures
