use Rattle.std.proofs.Common.{◌≡◌, ◌++◌, take, map}
use Rattle.std.specs.List.{flat_map}
use Rattle.go_block_core.specs.mirrors.Shown.{bound_shown}
use Rattle.go_block_core.proofs.BindingLemmas.{named_bound_at}
use Rattle.go_block_core.proofs.binding.add_dot.Given as goal

abbrev pub invariant-loop-named : goal.invariant-loop-named
invariant-loop-named l = map bound_shown l.bound.items ≡ map bound_shown l.fn.bound.items ++ flat_map (named_bound_at l.import.at l.exports.path) (take l.named-index l.named-items)
