use Rattle.std.proofs.Common.{length, map}
use Rattle.go_tree_nodes.specs.token_core.declared.kind.Operator.TheVariants as operator
use Rattle.go_tree_nodes.specs.Shapes.{shape_type_line}
use Rattle.go_tree_nodes.specs.Trees.{TypeSpecTree}
use Rattle.go_parse_reader.proofs.TypesCodeLists.{ListSoFar}
use Rattle.go_parse_core.specs.stmts.mirrors.StmtReading.{type_spec_at}
use Rattle.go_parse_core.proofs.stmts.type_decls.type_lines.Given as goal

abbrev pub invariant-turns : goal.invariant-turns
invariant-turns l = ListSoFar TypeSpecTree (type_spec_at l.budget) operator.Semicolon operator.CloseParen l.fn.ahead (map shape_type_line l.all.items) l.rest

abbrev pub decreases-turns : goal.decreases-turns
decreases-turns l = length l.rest
