use Rattle.std.proofs.Common.{take}
use Rattle.go_tree_nodes.specs.Shapes.{file_of}
use Rattle.go_block_core.specs.graph_core.Lists.{AllNumbered}
use Rattle.go_block_core.specs.Naming.{file_specs, import_at}
use Rattle.govisd_resolve.specs.mirrors.Making.{IsGivenIn}
use Rattle.govisd_resolve.proofs.alone.file_imports.Given as goal

abbrev pub invariant-loop-import : goal.invariant-loop-import
invariant-loop-import l = AllNumbered (λ n spec i. IsGivenIn l.plan.outcomes (import_at 0 0 n) i) 0 (take l.import (file_specs (file_of l.tree))) l.imports.items
