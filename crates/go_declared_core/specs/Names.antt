-- The names of types that are written in declarations outside functions, but for what types are defined by.
use Rattle.std.specs.Prelude.{List, [], Option, None, Some}
use Rattle.std.specs.List.{flat_map}
use Rattle.go_tree_nodes.specs.declared.decls.ValueKind.{ValueKind}
use Rattle.go_tree_nodes.specs.declared.decls.ValueKind.TheVariants as value_kinds
use Rattle.go_tree_nodes.specs.declared.types.TypeName.{TypeName}
use Rattle.go_collections_core.specs.text_core.declared.span.Span.{Span}
use Rattle.go_tree_nodes.specs.Trees.{TypeTree}
use Rattle.go_term_core.specs.decl_core.TopDecls.{FormTree, ValueForm, TypeForm, FuncForm}
use Rattle.go_typexpr_core.specs.entry.Marks.{alias_mark}
use Rattle.go_typexpr_core.specs.entry.Outlines.{FileOutline}
use Rattle.go_tree_nodes.specs.TypeNames.{type_names_in, signature_names_in}

-- a variable whose type is written
abbrev pub value_names : ValueKind → Option TypeTree → List TypeName
value_names value_kinds.Var (Some t) = type_names_in t
value_names value_kinds.Var None = []
value_names value_kinds.Const t = []

-- an alias writes the name of its type
abbrev pub alias_names : Option Span → TypeTree → List TypeName
alias_names None t = []
alias_names (Some mark) t = type_names_in t

-- a function and a method write their signature
abbrev pub face_names : FormTree → List TypeName
face_names (ValueForm k v i) = value_names k v.type_expr
face_names (TypeForm t) = alias_names (alias_mark t) t.type_expr
face_names (FuncForm g) = signature_names_in g.signature

-- the names of types that the declarations of a file write
abbrev pub names_faced : FileOutline → List TypeName
names_faced o = flat_map (λ d. face_names d.form) o.decls
