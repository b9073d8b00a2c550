-- The pieces of a function as the code has them: what they are, and what is noted of them.
use Rattle.std.specs.Prelude.{Bool, List, [], Option}
use Rattle.go_tree_nodes.specs.Trees.{Define}
use Rattle.go_tree_nodes.specs.Shapes.{shape, shape_exprs, shape_some_exprs, shape_value_spec, shape_simple}
use Rattle.go_tree_nodes.specs.TypeShapes.{shape_idents, shape_signature}
use Rattle.go_local_core.specs.Steps.{Piece, Header, Spec, Act, Condition, Given}
use Rattle.go_operand_core.specs.declared.types.Operand.{Operand}
use Rattle.go_local_core.specs.declared.Fault.{Fault}
use Rattle.go_expr_core.specs.Looks.{Looks}
use Rattle.go_stmt_core.specs.piece.Pieces.{piece_faults, piece_values}
use Rattle.go_body_core.specs.declared.piece_trees.PieceTree.{PieceTree}
use Rattle.go_body_core.specs.declared.piece_trees.PieceTree.TheVariants as trees

abbrev pub piece_of : PieceTree → Piece
piece_of (trees.Header r s) = Header r.now (shape_signature s.now)
piece_of (trees.Spec kind v) = Spec kind (shape_value_spec v.now)
piece_of (trees.Short d) = Act (Define (shape_idents d.now.names) d.now.define (shape_exprs d.now.values))
piece_of (trees.Simple s) = Act (shape_simple s.now)
piece_of (trees.Condition e) = Condition (shape e.now)
piece_of (trees.Given place es) = Given place (shape_some_exprs es.now)

-- what is new counts in a short declaration alone: a statement that declares nothing has no new names
abbrev pub new_in : List Bool → PieceTree → List Bool
new_in firsts (trees.Header r s) = firsts
new_in firsts (trees.Spec kind v) = firsts
new_in firsts (trees.Short d) = firsts
new_in firsts (trees.Simple s) = []
new_in firsts (trees.Condition e) = firsts
new_in firsts (trees.Given place es) = firsts

abbrev pub faults_of : {T S D P : Type 0} → Looks T S D P → List (Option T) → Bool → List Bool → PieceTree → List Fault
faults_of looks results has_names firsts t = piece_faults looks results has_names (new_in firsts t) (piece_of t)

-- what each of the names stands for that it declares
abbrev pub values_of : {T S D P : Type 0} → Looks T S D P → List Bool → PieceTree → List (Option (Operand T))
values_of looks firsts (trees.Header r s) = piece_values looks firsts (Header r.now (shape_signature s.now))
values_of looks firsts (trees.Spec kind v) = piece_values looks firsts (Spec kind (shape_value_spec v.now))
values_of looks firsts (trees.Short d) = piece_values looks firsts (Act (Define (shape_idents d.now.names) d.now.define (shape_exprs d.now.values)))
values_of looks firsts (trees.Simple s) = []
values_of looks firsts (trees.Condition e) = []
values_of looks firsts (trees.Given place es) = []
