use Rattle.std.proofs.Common.{◌≡◌, ◌++◌, take, map}
use Rattle.go_block_core.specs.Tables.{block_of}
use Rattle.go_block_core.specs.Holding.{file_blocks, imports_in}
use Rattle.go_block_core.specs.Faults.{block_file_faults}
use Rattle.go_block_core.proofs.package_block.file_blocks.Given as goal

abbrev pub invariant-loop-imports : goal.invariant-loop-imports
invariant-loop-imports l =
    (map block_of l.tables.items ≡ file_blocks (map imports_in (take l.imports-index l.imports-items)))
    × (l.faults.items ≡ l.fn.faults.items ++ block_file_faults (block_of l.names) 0 (map imports_in (take l.imports-index l.imports-items)))
