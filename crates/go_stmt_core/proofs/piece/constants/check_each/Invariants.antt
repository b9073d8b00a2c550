use Rattle.std.proofs.Common.{◌≡◌, ◌++◌, map, drop}
use Rattle.go_tree_nodes.specs.Shapes.{exprs_from}
use Rattle.go_stmt_core.specs.piece.Specifications.{constant_value, each_constant_faults}
use Rattle.go_stmt_core.proofs.piece.constants.check_each.Given as goal

abbrev pub invariant-loop-argument : goal.invariant-loop-argument
invariant-loop-argument g l =
    let rules = g.E.TypeLooks.types l.env in
    record {
      made : l.all.items ++ map (constant_value rules l.written) (drop l.argument-index l.given) ≡ map (constant_value rules l.written) l.given;
      noted : l.faults.items ++ each_constant_faults rules l.written l.first (exprs_from l.expr l.more) (drop l.argument-index l.given)
          ≡ l.fn.faults.items ++ each_constant_faults rules l.written l.first (exprs_from l.exprs.first l.exprs.more.items) l.given;
    }
