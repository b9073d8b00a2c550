use Rattle.std.proofs.Common.{length, map}
use Rattle.go_tree_nodes.specs.token_core.declared.kind.Operator.TheVariants as operator
use Rattle.go_tree_nodes.specs.Shapes.{shape_import_line}
use Rattle.go_tree_nodes.specs.Trees.{ImportSpecTree}
use Rattle.go_parse_reader.proofs.TypesCodeLists.{ListSoFar}
use Rattle.go_parse_core.specs.mirrors.FileReading.{import_spec_at}
use Rattle.go_parse_core.proofs.imports.import_lines.Given as goal

abbrev pub invariant-turns : goal.invariant-turns
invariant-turns l = ListSoFar ImportSpecTree import_spec_at operator.Semicolon operator.CloseParen l.fn.ahead (map shape_import_line l.all.items) l.rest

abbrev pub decreases-turns : goal.decreases-turns
decreases-turns l = length l.rest
