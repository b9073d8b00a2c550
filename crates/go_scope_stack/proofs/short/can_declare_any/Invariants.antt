use Rattle.std.proofs.Common.{◌≡◌, drop}
use Rattle.std.specs.List.{list_any}
use Rattle.go_scope_stack.specs.Blocks.{block_of, is_new, named, names_in}
use Rattle.go_scope_stack.proofs.short.can_declare_any.Given as goal

abbrev pub invariant-loop-name : goal.invariant-loop-name
invariant-loop-name l = list_any (is_new (block_of l.block)) (names_in (named (drop l.name-index l.names))) ≡ list_any (is_new (block_of l.block)) (names_in (named l.names))
