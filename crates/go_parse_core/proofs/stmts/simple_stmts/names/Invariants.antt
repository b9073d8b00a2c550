use Rattle.go_parse_core.proofs.StmtsCodeNames.{AreNames}
use Rattle.go_parse_core.proofs.stmts.simple_stmts.names.Given as goal

abbrev pub invariant-turns : goal.invariant-turns
invariant-turns l = AreNames l.fn.exprs.first l.yielded l.first l.names.items
