use Rattle.std.proofs.Common.{◌≡◌, [], take, length}
use Rattle.go_scope_stack.specs.Blocks.{block_after, block_of, list_names, named, names_in, short_names}
use Rattle.go_scope_stack.proofs.short.declare_each.Given as goal

abbrev pub invariant-loop-name : goal.invariant-loop-name
invariant-loop-name l = record {
  block : block_of l.block ≡ block_after (block_of l.fn.block) (named (take l.name-index l.names));
  seen : l.seen ≡ list_names [] (names_in (named (take l.name-index l.names)));
  shorts : l.shorts.items ≡ short_names (block_of l.fn.block) (names_in (named (take l.name-index l.names)));
  before : l.before ≡ length l.fn.block.names;
}
