-- What the pieces that the program keeps in lists declare.
use Rattle.std.specs.Prelude.{List, [], ◌∷◌, ◌++◌}
use Rattle.go_tree_nodes.specs.declared.types.Fields.{Fields}
use Rattle.go_tree_nodes.specs.declared.types.Fields.TheVariants as fields
use Rattle.go_tree_nodes.specs.TypeShapes.{shape_idents, shape_type}
use Rattle.go_decl_core.specs.declared.places.DeclKind.TheVariants as kinds
use Rattle.go_decl_core.specs.Outer.{Outer, Part, Embedded, outer, idents_outers, last_ident, type_outers}

-- the fields of one line of a struct type
abbrev pub field_outers : Fields → List Outer
field_outers (fields.Named xs t) = idents_outers kinds.Field Part (shape_idents xs) ++ type_outers (shape_type t)
field_outers (fields.Embedded star n) = outer kinds.Field Embedded (last_ident n) ∷ []
