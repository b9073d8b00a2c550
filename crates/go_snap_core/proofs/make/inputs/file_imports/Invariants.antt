use Rattle.std.proofs.Common.{take}
use Rattle.go_tree_nodes.specs.Shapes.{file_of}
use Rattle.go_graph_core.specs.Lists.{AllNumbered}
use Rattle.go_snap_core.specs.whole_workspace.mirrors.Steps.{exports_in}
use Rattle.go_names_core.specs.block_core.Naming.{file_specs, import_at}
use Rattle.go_names_core.specs.block_core.mirrors.Steps.{IsPlanned}
use Rattle.go_snap_core.proofs.make.inputs.file_imports.Given as goal

abbrev pub invariant-loop-import : goal.invariant-loop-import
invariant-loop-import l = AllNumbered (λ n spec i. IsPlanned l.plan.outcomes (exports_in l.parts) (import_at l.«package» l.file n) i) 0 (take l.import (file_specs (file_of l.tree))) l.imported.items
