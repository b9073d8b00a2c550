use Rattle.std.proofs.Common.{All, take}
use Rattle.go_graph_core.specs.Sources.{IsPlacedSource}
use Rattle.go_graph_core.proofs.workspace.pass_over.Given as goal

abbrev pub invariant-loop-file : goal.invariant-loop-file
invariant-loop-file l = All IsPlacedSource (take l.file-index l.files)
