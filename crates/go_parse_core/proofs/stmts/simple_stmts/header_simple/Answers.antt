use Rattle.std.proofs.Common.{arith}
use Rattle.go_tree_nodes.specs.Shapes.{shape_exprs}
use Rattle.go_parse_core.proofs.StmtsCodeSimple.{from_more}
use Rattle.go_parse_core.proofs.stmts.simple_stmts.header_simple.Goals as goal

pub returns : goal.returns
returns c =
    rw (from_more c.args.budget (shape_exprs c.args.front) c.args.ahead (omega (arith, c.requires.high, c.if-height-budget.false))) c.simple_behind.ensures
