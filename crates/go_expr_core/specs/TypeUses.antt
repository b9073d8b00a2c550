-- What the identifiers have in the parts of a type that is written out.
use Rattle.std.specs.Prelude.{List, map}
use Rattle.go_tree_nodes.specs.declared.types.Fields.{Fields}
use Rattle.go_tree_nodes.specs.declared.types.Fields.TheVariants as fields
use Rattle.go_tree_nodes.specs.Trees.{TypeTree, FieldTrees, MethodTrees, SignatureTree, ResultTree, ParamTrees}
use Rattle.go_tree_nodes.specs.TypeShapes.{shape_type}
use Rattle.go_expr_core.specs.declared.things.Use.{Use}
use Rattle.go_expr_core.specs.Looks.{Looks}
use Rattle.go_expr_core.specs.Uses as all_uses

abbrev pub type_uses : {T S D P : Type 0} → Looks T S D P → TypeTree → List (Use D P)
type_uses looks t = map (all_uses.use_of looks) (all_uses.type_spots looks t)

-- the fields of one line
abbrev pub line_spots : {T S D P : Type 0} → Looks T S D P → Fields → List (all_uses.Spot T D P)
line_spots looks (fields.Named xs t) = all_uses.type_spots looks (shape_type t)
line_spots looks (fields.Embedded star n) = all_uses.type_name_spots looks n

abbrev pub line_uses : {T S D P : Type 0} → Looks T S D P → Fields → List (Use D P)
line_uses looks fs = map (all_uses.use_of looks) (line_spots looks fs)

abbrev pub fields_uses : {T S D P : Type 0} → Looks T S D P → FieldTrees → List (Use D P)
fields_uses looks ls = map (all_uses.use_of looks) (all_uses.fields_spots looks ls)

abbrev pub methods_uses : {T S D P : Type 0} → Looks T S D P → MethodTrees → List (Use D P)
methods_uses looks ms = map (all_uses.use_of looks) (all_uses.methods_spots looks ms)

abbrev pub signature_uses : {T S D P : Type 0} → Looks T S D P → SignatureTree → List (Use D P)
signature_uses looks s = map (all_uses.use_of looks) (all_uses.signature_spots looks s)

abbrev pub result_uses : {T S D P : Type 0} → Looks T S D P → ResultTree → List (Use D P)
result_uses looks r = map (all_uses.use_of looks) (all_uses.result_spots looks r)

abbrev pub params_uses : {T S D P : Type 0} → Looks T S D P → ParamTrees → List (Use D P)
params_uses looks ps = map (all_uses.use_of looks) (all_uses.params_spots looks ps)
