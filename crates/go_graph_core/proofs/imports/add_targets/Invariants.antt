use Rattle.std.proofs.Common.{take, map}
use Rattle.go_tree_nodes.specs.declared.files.ImportLine.{ImportLine}
use Rattle.go_tree_nodes.specs.Terminals.{value_of}
use Rattle.go_graph_core.specs.Imports.{IsTarget}
use Rattle.go_graph_core.specs.mirrors.Targets.{Adds}
use Rattle.go_graph_core.proofs.imports.add_targets.Given as goal

abbrev pub invariant-loop-line : goal.invariant-loop-line
invariant-loop-line l = Adds (IsTarget l.fn.packages l.fn.from) (map (λ (i : ImportLine). value_of i.spec.path) (take l.line-index l.line-items)) l.fn.targets.items l.targets.items
