use Rattle.std.proofs.Common.{◌≡◌, ◌++◌, map}
use Rattle.std.specs.Vec.Iter.{into_iter_items}
use Rattle.go_package_core.specs.Checked.{local_shown}
use Rattle.go_package_core.proofs.locals.held_locals.Given as goal

abbrev pub invariant-loop-local : goal.invariant-loop-local
invariant-loop-local l = map local_shown l.held.items ++ into_iter_items l.local-iterator ≡ l.fn.locals.items
