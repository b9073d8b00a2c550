-- The identifiers that are looked up in targets of assignments and in specifications, in order.
--
-- The Go specification, "Declarations and scope", "Assignment statements".
use Rattle.std.specs.Prelude.{List, [], ◌++◌, Option, Some, None, if◌then◌else◌}
use Rattle.go_tree_nodes.specs.text_core.declared.span.Span.{Span}
use Rattle.go_tree_nodes.specs.declared.names.Ident.{Ident}
use Rattle.go_tree_nodes.specs.Trees.{Separated, One, Then, ExprTree, ValueSpecTree}
use Rattle.go_tree_nodes.specs.Idents.{expr_idents, list_idents, some_type_idents}
use Rattle.go_local_core.specs.walks.Ends.{is_blank_target}

-- targets of assignments: the blank identifier is none that is looked up

abbrev pub target_idents : ExprTree → List Ident
target_idents t = if is_blank_target t then [] else expr_idents t

abbrev pub targets_idents : Separated ExprTree → List Ident
targets_idents (One t) = target_idents t
targets_idents (Then t comma more) = target_idents t ++ targets_idents more

-- specifications of constants and variables

abbrev pub values_idents : Option (Span × Separated ExprTree) → List Ident
values_idents None = []
values_idents (Some v) = list_idents v.1

abbrev pub value_spec_idents : ValueSpecTree → List Ident
value_spec_idents v = some_type_idents v.type_expr ++ values_idents v.values
