-- What declarations outside functions have and break.
--
-- docs/RULES.md, "Declarations outside functions". The Go specification, "Constant declarations", "Variable declarations", "Type
-- declarations".
use Rattle.std.specs.Prelude.{List, ◌++◌}
use Rattle.go_tree_nodes.specs.declared.decls.ValueKind.{ValueKind}
use Rattle.go_tree_nodes.specs.Trees.{ValueSpecTree, ValueTree, TypeSpecTree, TypeDeclTree, of_specs}
use Rattle.go_expr_core.specs.declared.things.Use.{Use}
use Rattle.go_expr_core.specs.local_core.declared.Fault.{Fault}
use Rattle.go_expr_core.specs.Looks.{Looks}
use Rattle.go_expr_core.specs.TypeUses.{type_uses}
use Rattle.go_stmt_core.specs.piece.Specifications.{spec_uses, outer_faults}
use Rattle.go_inline_core.specs.Inline.{repeated_params}
use Rattle.go_stmt_core.specs.toplevel.Initial.{initial_faults}

-- constants and variables

-- what is amiss in a specification, and in its initialisers where it is one of variables
abbrev pub top_spec_faults : {T S D P : Type 0} → Looks T S D P → ValueKind → ValueSpecTree → List Fault
top_spec_faults looks kind v = outer_faults looks kind v ++ initial_faults looks kind v

abbrev pub value_decl_uses : {T S D P : Type 0} → Looks T S D P → ValueTree → List (Use D P)
value_decl_uses looks d = of_specs (spec_uses looks) d.specs

abbrev pub value_decl_faults : {T S D P : Type 0} → Looks T S D P → ValueTree → List Fault
value_decl_faults looks d = of_specs (top_spec_faults looks d.kind) d.specs

-- types: what is amiss in their fields and methods is said for the package as a whole; here the parameters of interface methods

abbrev pub type_spec_faults : TypeSpecTree → List Fault
type_spec_faults t = repeated_params t.type_expr

abbrev pub type_spec_uses : {T S D P : Type 0} → Looks T S D P → TypeSpecTree → List (Use D P)
type_spec_uses looks t = type_uses looks t.type_expr

abbrev pub type_decl_uses : {T S D P : Type 0} → Looks T S D P → TypeDeclTree → List (Use D P)
type_decl_uses looks d = of_specs (type_spec_uses looks) d.specs

abbrev pub type_decl_faults : TypeDeclTree → List Fault
type_decl_faults d = of_specs type_spec_faults d.specs
