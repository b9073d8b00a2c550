use Rattle.go_tree_nodes.specs.Shapes.{shape_some_simple}
use Rattle.go_parse_core.proofs.StmtsCodeHeads.{clauses_are, clauses_fail}
use Rattle.go_parse_core.proofs.stmts.headers.behind_init.Goals as goal

pub returns-in-Ok : goal.returns-in-Ok
returns-in-Ok c = clauses_are c.args.budget (shape_some_simple c.args.init) c.args.ahead _ c.in-Ok.ensures

pub returns-in-Err : goal.returns-in-Err
returns-in-Err c = clauses_fail c.args.budget (shape_some_simple c.args.init) c.args.ahead _ c.in-Err.ensures
