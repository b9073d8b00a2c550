-- Where parts of a tree begin, in bytes from the file's start.
use Rattle.std.specs.Prelude.{ℕ}
use Rattle.go_token_core.specs.text_core.declared.span.Span.{Span}
use Rattle.go_tree_nodes.specs.declared.types.TypeName.{TypeName}
use Rattle.go_tree_nodes.specs.declared.types.TypeName.TheVariants as type_names
use Rattle.go_tree_nodes.specs.Trees.{TypeTree, NamedType, Pointer, ParenType, Struct, Interface}

-- the first byte of the name of a type
abbrev pub type_name_start : TypeName → ℕ
type_name_start (type_names.Plain x) = x.span.start
type_name_start (type_names.Qualified p dot x) = p.span.start

-- the first byte of a type
abbrev pub type_start : TypeTree → ℕ
type_start (NamedType n) = type_name_start n
type_start (Pointer star t) = star.start
type_start (ParenType first t last) = first.start
type_start (Struct k first ls last) = k.start
type_start (Interface k first ms last) = k.start
