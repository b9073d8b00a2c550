use Rattle.std.proofs.Common.{◌≡◌, take}
use Rattle.go_graph_core.proofs.workspace.are_same_files.Given as goal

abbrev pub invariant-loop-file : goal.invariant-loop-file
invariant-loop-file l = take l.file l.files ≡ take l.file l.others
