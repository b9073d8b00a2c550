use Rattle.std.proofs.Common.{◌≡◌, ◌++◌, [], take}
use Rattle.go_graph_core.specs.Packages.{trees_of}
use Rattle.go_block_core.specs.Declarations.{files_declared}
use Rattle.go_block_core.specs.Faults.{block_decl_faults}
use Rattle.go_block_core.specs.Holding.{declared_block}
use Rattle.go_block_core.specs.Tables.{block_of}
use Rattle.go_block_core.proofs.package_block.package_block.Given as goal

abbrev pub invariant-loop-file : goal.invariant-loop-file
invariant-loop-file l =
    (block_of l.table ≡ declared_block [] (files_declared 0 (take l.file (trees_of l.«package».1))))
    × (l.faults.items ≡ l.fn.faults.items ++ block_decl_faults l.is_main [] (files_declared 0 (take l.file (trees_of l.«package».1))))
