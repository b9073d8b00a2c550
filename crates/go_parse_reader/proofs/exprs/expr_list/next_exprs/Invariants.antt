use Rattle.std.proofs.Common.{◌≤◌, ◌<◌, ◌^◌, ℕ, length}
use Rattle.go_tree_nodes.specs.declared.exprs.Expr.{Expr}
use Rattle.go_tree_nodes.specs.Shapes.{shape}
use Rattle.go_parse_reader.specs.exprs.mirrors.CodeShapes.{on_from, HighBehind}
use Rattle.go_parse_reader.proofs.ExprsCodeExprLists.{ExprsSoFar}
use Rattle.go_parse_reader.proofs.exprs.expr_list.next_exprs.Given as goal

abbrev pub invariant-turns : goal.invariant-turns
invariant-turns l = record {
  few : l.budget < 2 ^ 31;
  low : l.high ≤ l.budget;
  high : HighBehind l.more.items l.high;
  so_far : (first : Expr) (turns : ℕ) → length l.fn.ahead < turns → ExprsSoFar l.budget l.header (on_from l.budget l.header turns l.fn.ahead (shape first)) first l.more.items l.rest;
}

abbrev pub decreases-turns : goal.decreases-turns
decreases-turns l = length l.rest
