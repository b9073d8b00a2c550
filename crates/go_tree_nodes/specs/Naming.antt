-- Which types and expressions are names.
use Rattle.std.specs.Prelude.{Option, Some, None}
use Rattle.go_tree_nodes.specs.declared.names.Ident.{Ident}
use Rattle.go_tree_nodes.specs.declared.types.TypeName.{TypeName}
use Rattle.go_tree_nodes.specs.declared.types.TypeName.TheVariants as type_name
use Rattle.go_tree_nodes.specs.Trees.{TypeTree, NamedType, ExprTree, Named}

-- the name that a type is, where it is one
abbrev pub type_name_of : TypeTree → Option TypeName
type_name_of (NamedType n) = Some n
type_name_of _ = None

-- the name that a type is, where it is one of no package that is named
abbrev pub plain_name : TypeTree → Option Ident
plain_name (NamedType (type_name.Plain x)) = Some x
plain_name _ = None

-- the name that an expression is
abbrev pub name_of : ExprTree → Option Ident
name_of (Named x) = Some x
name_of _ = None
