use Rattle.std.proofs.Common.{◌<◌, ◌^◌, length, map}
use Rattle.go_tree_nodes.specs.token_core.declared.kind.Operator.TheVariants as operator
use Rattle.go_tree_nodes.specs.Shapes.{shape_value_line}
use Rattle.go_tree_nodes.specs.Trees.{ValueSpecTree}
use Rattle.go_parse_reader.proofs.TypesCodeLists.{ListSoFar}
use Rattle.go_parse_core.specs.stmts.mirrors.StmtReading.{value_spec_at}
use Rattle.go_parse_core.proofs.stmts.value_decls.value_lines.Given as goal

abbrev pub invariant-turns : goal.invariant-turns
invariant-turns l = record { so_far : ListSoFar ValueSpecTree (value_spec_at l.budget l.kind) operator.Semicolon operator.CloseParen l.fn.ahead (map shape_value_line l.all.items) l.rest; few : l.budget < 2 ^ 31 }

abbrev pub decreases-turns : goal.decreases-turns
decreases-turns l = length l.rest
