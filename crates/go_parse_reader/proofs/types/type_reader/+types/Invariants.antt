use Rattle.std.proofs.Common.{◌+◌, ◌*◌, length, map}
use Rattle.go_tree_nodes.specs.token_core.declared.kind.Operator.TheVariants as operator
use Rattle.go_tree_nodes.specs.declared.names.Ident.{Ident}
use Rattle.go_tree_nodes.specs.Trees.{SignatureTree}
use Rattle.go_parse_reader.specs.types.mirrors.EntryShapes.{entry_of, line_of, method_of}
use Rattle.go_parse_reader.specs.types.mirrors.TypeReading.{type_at, EntryTree, entry_at, LineTree, line_at, method_at}
use Rattle.go_parse_reader.proofs.TypesCodeLists.{ListSoFar}
use Rattle.go_parse_reader.proofs.types.type_reader.+types.Given as goal

abbrev pub decreases-type_expr : goal.decreases-type_expr
decreases-type_expr l = 12 * l.budget

abbrev pub decreases-type_above : goal.decreases-type_above
decreases-type_above l = 12 * l.inner + 11

abbrev pub decreases-struct_type : goal.decreases-struct_type
decreases-struct_type l = 12 * l.budget + 10

abbrev pub decreases-interface_type : goal.decreases-interface_type
decreases-interface_type l = 12 * l.budget + 10

abbrev pub decreases-boxed_type : goal.decreases-boxed_type
decreases-boxed_type l = 12 * l.budget + 1

abbrev pub decreases-in_parens : goal.decreases-in_parens
decreases-in_parens l = 12 * l.inner + 2

abbrev pub decreases-entry_of_type : goal.decreases-entry_of_type
decreases-entry_of_type l = 12 * l.budget + 1

abbrev pub decreases-entry : goal.decreases-entry
decreases-entry l = 12 * l.budget + 2

abbrev pub decreases-entries : goal.decreases-entries
decreases-entries l = 12 * l.budget + 3

abbrev pub decreases-params : goal.decreases-params
decreases-params l = 12 * l.budget + 4

abbrev pub decreases-listed : goal.decreases-listed
decreases-listed l = 12 * l.budget + 5

abbrev pub decreases-results : goal.decreases-results
decreases-results l = 12 * l.budget + 6

abbrev pub decreases-signature : goal.decreases-signature
decreases-signature l = 12 * l.budget + 7

abbrev pub decreases-method : goal.decreases-method
decreases-method l = 12 * l.budget + 8

abbrev pub decreases-methods : goal.decreases-methods
decreases-methods l = 12 * l.budget + 9

abbrev pub decreases-embedded : goal.decreases-embedded
decreases-embedded l = 12 * l.budget + 1

abbrev pub decreases-named : goal.decreases-named
decreases-named l = 12 * l.budget + 1

abbrev pub decreases-line : goal.decreases-line
decreases-line l = 12 * l.budget + 2

abbrev pub decreases-lines : goal.decreases-lines
decreases-lines l = 12 * l.budget + 3

abbrev pub invariant-entries-turns : goal.invariant-entries-turns
invariant-entries-turns l = ListSoFar EntryTree (entry_at (type_at l.budget)) operator.Comma operator.CloseParen l.fn.ahead (map entry_of l.all.items) l.rest

abbrev pub decreases-entries-turns : goal.decreases-entries-turns
decreases-entries-turns l = length l.rest

abbrev pub invariant-lines-turns : goal.invariant-lines-turns
invariant-lines-turns l = ListSoFar LineTree (line_at (type_at l.budget)) operator.Semicolon operator.CloseBrace l.fn.ahead (map line_of l.all.items) l.rest

abbrev pub decreases-lines-turns : goal.decreases-lines-turns
decreases-lines-turns l = length l.rest

abbrev pub invariant-methods-turns : goal.invariant-methods-turns
invariant-methods-turns l = ListSoFar (Ident × SignatureTree) (method_at (type_at l.budget)) operator.Semicolon operator.CloseBrace l.fn.ahead (map method_of l.all.items) l.rest

abbrev pub decreases-methods-turns : goal.decreases-methods-turns
decreases-methods-turns l = length l.rest
