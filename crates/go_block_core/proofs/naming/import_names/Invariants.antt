use Rattle.std.proofs.Common.{◌≡◌, take, map}
use Rattle.go_graph_core.specs.Packages.{trees_of}
use Rattle.go_block_core.specs.Holding.{imports_in}
use Rattle.go_block_core.specs.Naming.{imported_in, package_named}
use Rattle.go_block_core.proofs.naming.import_names.Given as goal

abbrev pub invariant-loop-file : goal.invariant-loop-file
invariant-loop-file l = map imports_in l.named.items ≡ package_named (take l.file (trees_of l.«package».1)) (take l.file (map imported_in l.imports))
