-- What the lines that the program keeps in lists declare, in a group or a type that ends at an offset.
use Rattle.std.specs.Prelude.{ℕ, true, List, [], ◌∷◌}
use Rattle.go_tree_nodes.specs.declared.decls.TypeLine.{TypeLine}
use Rattle.go_tree_nodes.specs.declared.decls.ValueKind.{ValueKind}
use Rattle.go_tree_nodes.specs.declared.decls.ValueLine.{ValueLine}
use Rattle.go_tree_nodes.specs.declared.types.FieldLine.{FieldLine}
use Rattle.go_tree_nodes.specs.declared.types.MethodLine.{MethodLine, MethodLine'}
use Rattle.go_tree_nodes.specs.Shapes.{shape_type_spec, shape_value_spec}
use Rattle.go_reference_core.specs.declared.outline.items.EntryKind.TheVariants as kinds
use Rattle.go_reference_core.specs.outline.Outlines.{EntryTree, entry, field_entries, first_ident, line_end, type_spec_entries, value_spec_entries}

abbrev pub field_line_entries : ℕ → FieldLine → List EntryTree
field_line_entries end l = field_entries l.fields (line_end l.semicolon end)

abbrev pub method_line_entries : ℕ → MethodLine → List EntryTree
method_line_entries end (MethodLine' x signature semicolon) = entry x kinds.Method true x.span.start (line_end semicolon end) (line_end semicolon end) ∷ []

abbrev pub value_line_entries : ValueKind → ℕ → ValueLine → List EntryTree
value_line_entries kind end l = value_spec_entries kind (first_ident (shape_value_spec l.spec).names).span.start (line_end l.semicolon end) (shape_value_spec l.spec)

abbrev pub type_line_entries : ℕ → TypeLine → List EntryTree
type_line_entries end l = type_spec_entries l.spec.name.span.start (line_end l.semicolon end) (shape_type_spec l.spec)
