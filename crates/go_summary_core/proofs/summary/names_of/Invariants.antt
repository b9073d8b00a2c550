use Rattle.std.proofs.Common.{◌≡◌, take}
use Rattle.go_declared_core.specs.graph_core.Workspaces.{names_of_files}
use Rattle.go_summary_core.proofs.summary.names_of.Given as goal

abbrev pub invariant-loop-file : goal.invariant-loop-file
invariant-loop-file l = l.names.items ≡ names_of_files (take l.file-index l.files)
