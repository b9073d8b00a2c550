use Rattle.std.proofs.Common.{◌≡◌, [], ◌++◌, map}
use Rattle.std.specs.Vec.Iter.{into_iter_items}
use Rattle.go_block_core.specs.Exports.{name_and_decl}
use Rattle.go_declared_core.specs.Packages.{seen_after}
use Rattle.go_declared_core.proofs.seen.SeenNames.of.Given as goal

abbrev pub invariant-loop-named : goal.invariant-loop-named
invariant-loop-named l = (l.names ≡ seen_after [] (map name_and_decl l.yielded)) × (l.yielded ++ into_iter_items l.named-iterator ≡ l.fn.block.items)
