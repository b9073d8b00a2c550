use Rattle.std.proofs.Common.{◌≡◌, ◌++◌}
use Rattle.std.specs.Vec.Iter.{into_iter_items}
use Rattle.go_mset_core.specs.mirrors.Keeping.{kept}
use Rattle.go_mset_core.proofs.methods.keep.Given as goal

abbrev pub invariant-selections : goal.invariant-selections
invariant-selections l = (l.methods.items ≡ kept l.yielded) × (l.yielded ++ into_iter_items l.selected-iterator ≡ l.fn.found.items)
