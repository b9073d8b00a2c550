use Rattle.std.proofs.Common.{◌≡◌, drop}
use Rattle.go_collections_core.specs.name_table.Named.{entries_named}
use Rattle.go_scope_stack.specs.Blocks.{in_block}
use Rattle.go_scope_stack.proofs.find_listed.Given as goal

abbrev pub invariant-loop-key : goal.invariant-loop-key
invariant-loop-key l = in_block (entries_named (drop l.key-index l.decls)) l.name ≡ in_block (entries_named l.decls) l.name
