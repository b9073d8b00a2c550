-- Statements that may stand in a header, conditions, and what is returned.
--
-- docs/RULES.md, "Assignments, declarations, returns, statements". The Go specification, "Expression statements", "IncDec statements",
-- "Assignment statements", "Short variable declarations", "If statements", "For statements", "Return statements".
use Rattle.std.specs.Prelude.{Bool, false, List, [], ◌++◌, Option, Some, None}
use Rattle.go_constant_core.specs.text_core.declared.span.Span.{Span}
use Rattle.go_tree_nodes.specs.token_core.declared.kind.Operator.{Operator}
use Rattle.go_tree_nodes.specs.declared.names.Ident.{Ident}
use Rattle.go_tree_nodes.specs.Trees.{Separated, ExprTree, Paren, Call, SimpleTree, Alone, Step, Assign, Update, Define}
use Rattle.go_expr_core.specs.local_core.Outline.{idents}
use Rattle.go_expr_core.specs.denote_core.declared.things.Stand.TheVariants as stands
use Rattle.go_expr_core.specs.denote_core.declared.things.Denoted.{Denoted}
use Rattle.go_expr_core.specs.denote_core.declared.things.Argument.{Argument}
use Rattle.go_expr_core.specs.denote_core.Arguments.{argument_of}
use Rattle.go_stmt_core.specs.statement.Assignments.{assignment_rule}
use Rattle.go_stmt_core.specs.statement.Declarations.{short_types}
use Rattle.go_stmt_core.specs.statement.Returns.{return_rule}
use Rattle.go_stmt_core.specs.statement.Statements.{statement_rule, condition_rule}
use Rattle.go_stmt_core.specs.statement.Updates.{update_rule, increment_rule}
use Rattle.go_expr_core.specs.declared.things.Use.{Use}
use Rattle.go_expr_core.specs.local_core.declared.Fault.{Fault}
use Rattle.go_expr_core.specs.Looks.{Looks}
use Rattle.go_expr_core.specs.Places.{start}
use Rattle.go_expr_core.specs.Lists.{is_list}
use Rattle.go_expr_core.specs.Denoting.{denoted}
use Rattle.go_expr_core.specs.Uses.{uses}
use Rattle.go_expr_core.specs.Faults.{faults, fault_at, operand_faults}
use Rattle.go_stmt_core.specs.piece.Values.{list_start, given, is_unknown, list_uses, list_faults}
use Rattle.go_stmt_core.specs.piece.Targets.{targets, targets_uses, targets_faults, short_targets}
use Rattle.go_stmt_core.specs.piece.Specifications.{names_start}

-- what an expression calls, if it is a call, in parentheses or not
abbrev pub callee_of : {T S D P : Type 0} → Looks T S D P → ExprTree → Option (Denoted T S D)
callee_of looks (Call e first items last) = Some (denoted looks stands.Callee e)
callee_of looks (Paren first e last) = callee_of looks e
callee_of looks _ = None

-- an operand, as a rule takes it
abbrev pub operand_argument : {T S D P : Type 0} → Looks T S D P → ExprTree → Argument T
operand_argument looks e = argument_of (denoted looks stands.«Value» e)

abbrev pub assign_uses : {T S D P : Type 0} → Looks T S D P → Separated ExprTree → Separated ExprTree → List (Use D P)
assign_uses looks ts es = targets_uses looks ts ++ list_uses looks es

abbrev pub update_uses : {T S D P : Type 0} → Looks T S D P → ExprTree → ExprTree → List (Use D P)
update_uses looks e v = uses looks stands.«Value» e ++ uses looks stands.«Value» v

abbrev pub simple_uses : {T S D P : Type 0} → Looks T S D P → SimpleTree → List (Use D P)
simple_uses looks (Alone e) = uses looks stands.«Value» e
simple_uses looks (Step e op span) = uses looks stands.«Value» e
simple_uses looks (Assign ts span es) = assign_uses looks ts es
simple_uses looks (Update e op span v) = update_uses looks e v
simple_uses looks (Define xs span es) = list_uses looks es

-- each form with its faults

abbrev pub alone_faults : {T S D P : Type 0} → Looks T S D P → ExprTree → List Fault
alone_faults looks e = faults looks stands.«Value» e ++ fault_at (start e) (statement_rule (callee_of looks e) (denoted looks stands.«Value» e))

abbrev pub step_faults : {T S D P : Type 0} → Looks T S D P → ExprTree → List Fault
step_faults looks e = operand_faults looks stands.«Value» e ++ fault_at (start e) (increment_rule looks.types (operand_argument looks e))

abbrev pub assign_faults : {T S D P : Type 0} → Looks T S D P → Separated ExprTree → Separated ExprTree → List Fault
assign_faults looks ts es =
    targets_faults looks (is_list ts) ts ++ (list_faults looks es ++ fault_at (list_start ts) (assignment_rule looks.types (targets looks (is_list ts) ts) (is_unknown looks es) (given looks es)))

abbrev pub update_faults : {T S D P : Type 0} → Looks T S D P → ExprTree → Operator → ExprTree → List Fault
update_faults looks e op v =
    operand_faults looks stands.«Value» e ++ (operand_faults looks stands.«Value» v ++ fault_at (start e) (update_rule looks.types op (operand_argument looks e) (operand_argument looks v)))

abbrev pub short_piece_faults : {T S D P : Type 0} → Looks T S D P → List Bool → Separated Ident → Separated ExprTree → List Fault
short_piece_faults looks firsts xs es =
    list_faults looks es ++ fault_at (names_start xs) (assignment_rule looks.types (short_targets looks firsts [] (idents xs)) (is_unknown looks es) (given looks es))

abbrev pub simple_faults : {T S D P : Type 0} → Looks T S D P → List Bool → SimpleTree → List Fault
simple_faults looks firsts (Alone e) = alone_faults looks e
simple_faults looks firsts (Step e op span) = step_faults looks e
simple_faults looks firsts (Assign ts span es) = assign_faults looks ts es
simple_faults looks firsts (Update e op span v) = update_faults looks e op v
simple_faults looks firsts (Define xs span es) = short_piece_faults looks firsts xs es

-- the types of the names left of `:=`
abbrev pub short_name_types : {T S D P : Type 0} → Looks T S D P → List Bool → Separated Ident → Separated ExprTree → List (Option T)
short_name_types looks firsts xs es = short_types looks.types (short_targets looks firsts [] (idents xs)) (given looks es)

abbrev pub condition_faults : {T S D P : Type 0} → Looks T S D P → ExprTree → List Fault
condition_faults looks e = faults looks stands.«Value» e ++ fault_at (start e) (condition_rule looks.types (denoted looks stands.«Value» e))

-- what is returned, where the results have these types and have names or not

abbrev pub returned_uses : {T S D P : Type 0} → Looks T S D P → Option (Separated ExprTree) → List (Use D P)
returned_uses looks None = []
returned_uses looks (Some es) = list_uses looks es

abbrev pub returned_faults : {T S D P : Type 0} → Looks T S D P → List (Option T) → Bool → Span → Option (Separated ExprTree) → List Fault
returned_faults looks results has_names place None = fault_at place.start (return_rule looks.types results has_names false [])
returned_faults looks results has_names place (Some es) =
    list_faults looks es ++ fault_at place.start (return_rule looks.types results has_names (is_unknown looks es) (given looks es))
