use Rattle.std.proofs.Common.{◌≡◌, [], map, take}
use Rattle.go_scope_stack.specs.Blocks.{block_of, list_names, short_names}
use Rattle.go_scope_stack.proofs.short.short_names_in.Given as goal

abbrev pub invariant-loop-name : goal.invariant-loop-name
invariant-loop-name l = record {
  seen : l.seen ≡ list_names [] (map (λ n. n.now) (take l.name-index l.names));
  shorts : l.shorts.items ≡ short_names (block_of l.block) (map (λ n. n.now) (take l.name-index l.names));
}
