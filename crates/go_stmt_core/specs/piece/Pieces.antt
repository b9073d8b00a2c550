-- What is noted of each piece of a function, and what the names stand for that it declares.
--
-- docs/RULES.md, "Expressions: roles, order, faults of parts", "Assignments, declarations, returns, statements". The Go specification,
-- "Declarations and scope", "Statements".
use Rattle.std.specs.Prelude.{Bool, List, [], map, Option}
use Rattle.go_tree_nodes.specs.Trees.{SimpleTree, Alone, Step, Assign, Update, Define}
use Rattle.go_expr_core.specs.local_core.Steps.{Piece, Header, Spec, Act, Condition, Given}
use Rattle.go_expr_core.specs.operand_core.declared.types.Operand.{Operand}
use Rattle.go_expr_core.specs.denote_core.declared.things.Stand.TheVariants as stands
use Rattle.go_expr_core.specs.declared.things.Use.{Use}
use Rattle.go_expr_core.specs.local_core.declared.Fault.{Fault}
use Rattle.go_expr_core.specs.Looks.{Looks}
use Rattle.go_expr_core.specs.Uses.{uses}
use Rattle.go_stmt_core.specs.piece.Values.{variable}
use Rattle.go_stmt_core.specs.piece.Specifications.{spec_uses, spec_faults, spec_values}
use Rattle.go_stmt_core.specs.piece.Headers.{header_uses, signature_faults, header_types}
use Rattle.go_stmt_core.specs.piece.Statements.{simple_uses, simple_faults, short_name_types, condition_faults, returned_uses, returned_faults}

-- what its identifiers and calls have, in order of their places
abbrev pub piece_uses : {T S D P : Type 0} → Looks T S D P → Piece → List (Use D P)
piece_uses looks (Header r s) = header_uses looks r s
piece_uses looks (Spec kind v) = spec_uses looks v
piece_uses looks (Act s) = simple_uses looks s
piece_uses looks (Condition e) = uses looks stands.«Value» e
piece_uses looks (Given place es) = returned_uses looks es

-- its faults: those of its types, those of its expressions, its own; in a function whose results have these types, and have names or
-- not, and by which of the names that it declares are the first of their block
abbrev pub piece_faults : {T S D P : Type 0} → Looks T S D P → List (Option T) → Bool → List Bool → Piece → List Fault
piece_faults looks results has_names firsts (Header r s) = signature_faults looks s
piece_faults looks results has_names firsts (Spec kind v) = spec_faults looks kind v
piece_faults looks results has_names firsts (Act s) = simple_faults looks firsts s
piece_faults looks results has_names firsts (Condition e) = condition_faults looks e
piece_faults looks results has_names firsts (Given place es) = returned_faults looks results has_names place es

-- what each of the names stands for that it declares: a value, or none where it has no type

abbrev pub simple_values : {T S D P : Type 0} → Looks T S D P → List Bool → SimpleTree → List (Option (Operand T))
simple_values looks firsts (Alone e) = []
simple_values looks firsts (Step e op span) = []
simple_values looks firsts (Assign ts span es) = []
simple_values looks firsts (Update e op span v) = []
simple_values looks firsts (Define xs span es) = map variable (short_name_types looks firsts xs es)

abbrev pub piece_values : {T S D P : Type 0} → Looks T S D P → List Bool → Piece → List (Option (Operand T))
piece_values looks firsts (Header r s) = map variable (header_types looks r s)
piece_values looks firsts (Spec kind v) = spec_values looks kind v
piece_values looks firsts (Act s) = simple_values looks firsts s
piece_values looks firsts (Condition e) = []
piece_values looks firsts (Given place es) = []
