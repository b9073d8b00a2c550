-- The names of types that are written in type declarations and in methods outside their bodies.
use Rattle.std.specs.Prelude.{List, [], ◌∷◌, Option, None, Some}
use Rattle.std.specs.List.{flat_map}
use Rattle.go_tree_nodes.specs.declared.files.Receiver.{Receiver}
use Rattle.go_tree_nodes.specs.declared.types.TypeName.{TypeName}
use Rattle.go_tree_nodes.specs.Trees.{FuncTree}
use Rattle.go_term_core.specs.decl_core.TopDecls.{FormTree, ValueForm, TypeForm, FuncForm}
use Rattle.go_typexpr_core.specs.entry.Outlines.{FileOutline}
use Rattle.go_tree_nodes.specs.TypeNames.{type_names_in, signature_names_in}

-- a method writes the base of its receiver and its signature
abbrev pub received_names : FuncTree → Option Receiver → List TypeName
received_names g None = []
received_names g (Some r) = r.base ∷ signature_names_in g.signature

abbrev pub form_names : FormTree → List TypeName
form_names (ValueForm k v i) = []
form_names (TypeForm t) = type_names_in t.type_expr
form_names (FuncForm g) = received_names g g.receiver

-- the names of types that a file's types and methods write
abbrev pub names_written : FileOutline → List TypeName
names_written o = flat_map (λ d. form_names d.form) o.decls
