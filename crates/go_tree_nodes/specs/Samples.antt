-- Parts of trees that worked examples are made of, each of one byte.
use Rattle.std.specs.Prelude.{ℕ, suc, List, Some, None, codes}
use Rattle.go_token_core.specs.text_core.declared.span.Span.{Span}
use Rattle.go_tree_nodes.specs.declared.names.Ident.{Ident}
use Rattle.go_tree_nodes.specs.declared.types.TypeName.TheVariants as type_names
use Rattle.go_tree_nodes.specs.Trees.{TypeTree, NamedType, ExprTree, Named, TypeSpecTree}

-- one byte
abbrev pub at : ℕ → Span
at n = record { start = n; end = suc n }

-- an identifier
abbrev pub called : List ℕ → ℕ → Ident
called name n = record { name = name; span = at n }

-- an expression that is a name
abbrev pub name_at : List ℕ → ℕ → ExprTree
name_at name n = Named (called name n)

-- a type that is a name
abbrev pub type_at : List ℕ → ℕ → TypeTree
type_at name n = NamedType (type_names.Plain (called name n))

abbrev pub int_at : ℕ → TypeTree
int_at n = type_at (codes "int") n

-- a type that is declared with another type
abbrev pub type_spec_of : Ident → TypeTree → TypeSpecTree
type_spec_of x t = record { name = x; alias = None; type_expr = t }

-- an alias, with the place of its `=`
abbrev pub alias_of : Ident → ℕ → TypeTree → TypeSpecTree
alias_of x n t = record { name = x; alias = Some (at n); type_expr = t }
