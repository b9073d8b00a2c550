-- The fields of one line of a struct type, as the program has them.
use Rattle.std.specs.Prelude.{List}
use Rattle.go_tree_nodes.specs.declared.types.Fields.{Fields}
use Rattle.go_tree_nodes.specs.declared.types.Fields.TheVariants as fields
use Rattle.go_tree_nodes.specs.TypeShapes.{shape_type}
use Rattle.go_cursor_core.specs.Used.{Used, type_name_used, type_used}

abbrev pub line_used : Fields → List Used
line_used (fields.Named xs t) = type_used (shape_type t)
line_used (fields.Embedded star n) = type_name_used n
