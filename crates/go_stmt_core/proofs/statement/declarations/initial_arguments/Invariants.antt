use Rattle.std.proofs.Common.{◌≡◌, ◌++◌, map}
use Rattle.std.specs.Vec.Iter.{into_iter_items}
use Rattle.go_stmt_core.specs.statement.Declarations.{initial_argument}
use Rattle.go_stmt_core.proofs.statement.declarations.initial_arguments.Given as goal

abbrev pub invariant-loop-argument : goal.invariant-loop-argument
invariant-loop-argument g l = l.all.items ++ map initial_argument (into_iter_items l.argument-iterator) ≡ map initial_argument l.fn.given.items
