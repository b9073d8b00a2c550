use Rattle.std.proofs.Common.{take, map}
use Rattle.go_graph_core.specs.Packages.{trees_of}
use Rattle.go_snap_core.specs.whole_workspace.mirrors.Steps.{exports_in}
use Rattle.go_names_core.specs.block_core.Naming.{AreInPackage, imported_in}
use Rattle.go_names_core.specs.block_core.mirrors.Steps.{IsPlanned}
use Rattle.go_snap_core.proofs.make.inputs.package_imports.Given as goal

abbrev pub invariant-loop-file : goal.invariant-loop-file
invariant-loop-file l = AreInPackage (IsPlanned l.plan.outcomes (exports_in l.parts)) l.number (take l.file (trees_of l.«package».1)) (map imported_in l.imported.items)
