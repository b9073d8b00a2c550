-- Names of a signature, and which of them were seen.
use Rattle.std.specs.Prelude.{List, [], map}
use Rattle.std.specs.Borrow.{Bor}
use Rattle.go_tree_nodes.specs.declared.names.Ident.{Ident}
use Rattle.go_tree_nodes.specs.declared.types.Fields.{Fields}
use Rattle.go_tree_nodes.specs.declared.types.Fields.TheVariants as fields
use Rattle.go_tree_nodes.specs.TypeShapes.{shape_type}
use Rattle.go_names_core.specs.local_core.declared.Fault.{Fault}
use Rattle.go_inline_core.specs.Inline.{repeated_params}

abbrev pub names_of : List (Bor Ident) → List Ident
names_of xs = map (λ x. x.now) xs

-- the fields of one line
abbrev pub field_repeated : Fields → List Fault
field_repeated (fields.Named xs t) = repeated_params (shape_type t)
field_repeated (fields.Embedded star n) = []
