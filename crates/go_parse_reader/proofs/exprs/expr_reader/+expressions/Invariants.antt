use Rattle.std.proofs.Common.{◌≡◌, ◌≤◌, ◌<◌, ◌+◌, ◌-◌, ◌*◌, ◌^◌, length, map}
use Rattle.go_tree_nodes.specs.token_core.declared.kind.Operator.TheVariants as operator
use Rattle.go_tree_nodes.specs.Shapes.{shape, items_of}
use Rattle.go_tree_nodes.specs.Heights.{height, items_height}
use Rattle.go_parse_reader.proofs.TypesCodeLists.{ListSoFar}
use Rattle.go_parse_reader.specs.exprs.mirrors.CodeShapes.{item_of}
use Rattle.go_parse_reader.specs.exprs.mirrors.ExprReading.{ItemTree, item_ahead, expr_at}
use Rattle.go_parse_reader.proofs.ExprsOnward.{onward}
use Rattle.go_parse_reader.proofs.exprs.expr_reader.+expressions.Given as goal

abbrev pub decreases-ranked_expr : goal.decreases-ranked_expr
decreases-ranked_expr l = 12 * l.budget

abbrev pub decreases-one_step : goal.decreases-one_step
decreases-one_step l = 12 * l.inner + 9

abbrev pub decreases-binary : goal.decreases-binary
decreases-binary l = 12 * l.inner + 5

abbrev pub decreases-call : goal.decreases-call
decreases-call l = 12 * l.inner + 5

abbrev pub decreases-closed_items : goal.decreases-closed_items
decreases-closed_items l = 12 * l.inner + 4

abbrev pub decreases-operand : goal.decreases-operand
decreases-operand l = 12 * l.inner + 9

abbrev pub decreases-boxed_expr : goal.decreases-boxed_expr
decreases-boxed_expr l = 12 * l.budget + 1

abbrev pub decreases-elements : goal.decreases-elements
decreases-elements l = 12 * l.inner + 5

abbrev pub decreases-in_parens : goal.decreases-in_parens
decreases-in_parens l = 12 * l.inner + 2

abbrev pub decreases-unary : goal.decreases-unary
decreases-unary l = 12 * l.inner + 2

abbrev pub decreases-named : goal.decreases-named
decreases-named l = 12 * l.inner + 8

abbrev pub decreases-struct_literal : goal.decreases-struct_literal
decreases-struct_literal l = 12 * l.inner + 8

abbrev pub decreases-item : goal.decreases-item
decreases-item l = 12 * l.inner + 1

abbrev pub decreases-items : goal.decreases-items
decreases-items l = 12 * l.inner + 3

abbrev pub invariant-ranked_expr-turns : goal.invariant-ranked_expr-turns
invariant-ranked_expr-turns l = record {
  some : 0 < l.budget;
  few : l.budget < 2 ^ 31;
  high : l.high ≡ height (shape l.left);
  low : l.high ≤ l.budget;
  same : expr_at l.budget l.header l.least l.fn.ahead ≡ onward (l.budget - 1) l.header l.least (shape l.left) l.rest;
}

abbrev pub decreases-ranked_expr-turns : goal.decreases-ranked_expr-turns
decreases-ranked_expr-turns l = l.budget - l.high

abbrev pub invariant-items-turns : goal.invariant-items-turns
invariant-items-turns l = record {
  few : l.inner < 2 ^ 31;
  low : l.high ≤ l.inner;
  high : l.high ≡ items_height (items_of l.all.items);
  so_far : ListSoFar ItemTree (item_ahead (expr_at l.inner) l.keyed) operator.Comma l.close l.fn.ahead (map item_of l.all.items) l.rest;
}

abbrev pub decreases-items-turns : goal.decreases-items-turns
decreases-items-turns l = length l.rest
