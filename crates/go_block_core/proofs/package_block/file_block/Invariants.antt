use Rattle.std.proofs.Common.{◌≡◌, ◌++◌, [], map}
use Rattle.std.specs.Vec.Iter.{into_iter_items}
use Rattle.go_block_core.specs.Tables.{block_of}
use Rattle.go_block_core.specs.Bindings.{file_bound}
use Rattle.go_block_core.specs.Holding.{bound_block, file_block}
use Rattle.go_block_core.specs.Faults.{bound_faults}
use Rattle.go_block_core.specs.mirrors.Shown.{bound_shown}
use Rattle.go_block_core.proofs.package_block.file_block.Given as goal

abbrev pub invariant-loop-bound : goal.invariant-loop-bound
invariant-loop-bound l =
    (bound_block (block_of l.table) (map bound_shown (into_iter_items l.bound-iterator)) ≡ file_block l.imports.items)
    × (l.faults.items ++ bound_faults (block_of l.names) l.file (block_of l.table) (map bound_shown (into_iter_items l.bound-iterator)) ≡ l.fn.faults.items ++ bound_faults (block_of l.names) l.file [] (file_bound l.imports.items))
