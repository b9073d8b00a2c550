-- The identifiers of the declarations of a file in their contexts, and their calls, in order of their places: as go_body_core::file's uses of a file.
--
-- docs/RULES.md, "Occurrences", "Declarations outside functions". The Go specification, "Declarations and scope".
use Rattle.std.specs.Prelude.{List}
use Rattle.std.specs.List.{flat_map}
use Rattle.go_tree_nodes.specs.Trees.{DeclTree, Value, Types, Func, TopTree, of_specs}
use Rattle.go_stmt_core.specs.expr_core.Uses.{type_spots}
use Rattle.go_package_core.specs.body_core.FunctionStands.{FileStand, outer_looks}
use Rattle.go_complete_core.specs.spelling.PieceSpots.{spec_spots}
use Rattle.go_complete_core.specs.spelling.Functions.{TheSpot, func_spots}

abbrev pub decl_spots : FileStand → DeclTree → List TheSpot
decl_spots st (Value v) = of_specs (spec_spots (outer_looks st)) v.specs
decl_spots st (Types t) = of_specs (λ s. type_spots (outer_looks st) s.type_expr) t.specs
decl_spots st (Func f) = func_spots st f

abbrev pub tops_spots : FileStand → List TopTree → List TheSpot
tops_spots st ds = flat_map (λ d. decl_spots st d.decl) ds
