use Rattle.std.proofs.Common.{◌≡◌, drop}
use Rattle.go_collections_core.specs.name_table.Named.{entries_named}
use Rattle.go_scope_stack.specs.Blocks.{block_of, names_in, list_names}
use Rattle.go_scope_stack.proofs.add_block_names.Given as goal

abbrev pub invariant-loop-name : goal.invariant-loop-name
invariant-loop-name l = list_names l.names (names_in (entries_named (drop l.name-index l.name-items))) ≡ list_names l.fn.names (names_in (block_of l.block))
