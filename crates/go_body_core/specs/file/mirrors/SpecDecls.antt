-- Declarations by specifications as the code has them: what they have and break.
use Rattle.std.specs.Prelude.{ℕ, ⊤, List}
use Rattle.go_tree_nodes.specs.Shapes.{shape_type_decl, shape_value}
use Rattle.go_inline_core.specs.Types.{InlineOf}
use Rattle.go_tree_nodes.specs.WrittenTypes.{specs_types}
use Rattle.go_expr_core.specs.declared.things.Use.{Use}
use Rattle.go_local_core.specs.declared.Fault.{Fault}
use Rattle.go_expr_core.specs.Looks.{Looks}
use Rattle.go_stmt_core.specs.toplevel.Tops.{value_decl_uses, value_decl_faults, type_decl_uses, type_decl_faults}
use Rattle.go_body_core.specs.function.Stands.{FileStand}
use Rattle.go_body_core.specs.declared.file.spec_decl.SpecDecl.{SpecDecl}
use Rattle.go_body_core.specs.declared.file.spec_decl.SpecDecl.TheVariants as decls
use Rattle.go_body_core.specs.file.mirrors.Steps.{AreSeen}

abbrev pub spec_decl_uses : {T S D P : Type 0} → Looks T S D P → SpecDecl → List (Use D P)
spec_decl_uses looks (decls.Values v) = value_decl_uses looks (shape_value v.now)
spec_decl_uses looks (decls.Types t) = type_decl_uses looks (shape_type_decl t.now)

abbrev pub spec_decl_faults : {T S D P : Type 0} → Looks T S D P → SpecDecl → List Fault
spec_decl_faults looks (decls.Values v) = value_decl_faults looks (shape_value v.now)
spec_decl_faults looks (decls.Types t) = type_decl_faults (shape_type_decl t.now)

-- a table has of each type that constants and variables write what its names make it: what the names in types have rests on no table
abbrev pub AreSpecsSeen : FileStand → List (ℕ × InlineOf) → SpecDecl → Type 0
AreSpecsSeen st types (decls.Values v) = AreSeen st types (specs_types (shape_value v.now).specs)
AreSpecsSeen st types (decls.Types t) = ⊤
