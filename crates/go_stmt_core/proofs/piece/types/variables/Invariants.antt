use Rattle.std.proofs.Common.{◌≡◌, ◌++◌, map}
use Rattle.std.specs.Vec.Iter.{into_iter_items}
use Rattle.go_stmt_core.specs.piece.Values.{variable}
use Rattle.go_stmt_core.proofs.piece.types.variables.Given as goal

abbrev pub invariant-loop-t : goal.invariant-loop-t
invariant-loop-t g l = l.all.items ++ map variable (into_iter_items l.t-iterator) ≡ map variable l.fn.types.items
