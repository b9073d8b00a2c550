use Rattle.std.proofs.Common.{◌≡◌, map, take}
use Rattle.go_graph_core.specs.Packages.{trees_of}
use Rattle.go_typexpr_core.specs.entry.Outlines.{outline_of, outline_shown}
use Rattle.go_typexpr_core.proofs.entry.files.outlines.Given as goal

abbrev pub invariant-loop-file : goal.invariant-loop-file
invariant-loop-file l = map outline_shown l.outlines.items ≡ map (λ t. outline_of t.1) (trees_of (take l.file-index l.files))
