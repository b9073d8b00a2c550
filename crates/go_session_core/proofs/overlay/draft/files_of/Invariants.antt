use Rattle.std.proofs.Common.{◌≡◌, take, None}
use Rattle.go_graph_core.specs.Workspaces.{files_at}
use Rattle.go_session_core.proofs.overlay.draft.files_of.Given as goal

abbrev pub invariant-loop-package : goal.invariant-loop-package
invariant-loop-package l = files_at (take l.package-index l.packages) l.path ≡ None
