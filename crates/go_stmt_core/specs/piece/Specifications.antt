-- Specifications of variables and constants: what they have, what they break, and what their names stand for.
--
-- docs/RULES.md, "Assignments, declarations, returns, statements". The Go specification, "Variable declarations", "Constant declarations".
use Rattle.std.specs.Prelude.{ℕ, List, [], ◌∷◌, ◌++◌, ◌==◌, length, map, replicate, Option, Some, None, if◌then◌else◌}
use Rattle.go_constant_core.specs.text_core.declared.span.Span.{Span}
use Rattle.go_constant_core.specs.text_core.declared.rule.Rule.{Rule}
use Rattle.go_constant_core.specs.text_core.declared.rule.Rule.TheVariants.{Y7}
use Rattle.go_tree_nodes.specs.declared.names.Ident.{Ident}
use Rattle.go_tree_nodes.specs.declared.decls.ValueKind.{ValueKind}
use Rattle.go_tree_nodes.specs.declared.decls.ValueKind.TheVariants as kinds
use Rattle.go_tree_nodes.specs.Trees.{Separated, One, Then, ExprTree, ValueSpecTree}
use Rattle.go_expr_core.specs.local_core.Outline.{idents}
use Rattle.go_expr_core.specs.operand_core.declared.types.Operand.{Operand}
use Rattle.go_expr_core.specs.operand_core.TypeRules.{TypeRules}
use Rattle.go_expr_core.specs.denote_core.declared.things.Argument.{Argument}
use Rattle.go_expr_core.specs.denote_core.declared.things.Argument.TheVariants as arguments
use Rattle.go_stmt_core.specs.statement.Declarations.{declared_types, variables_rule, initials_rule, initial_types}
use Rattle.go_stmt_core.specs.statement.Constants.{constants_rule, constant_answer}
use Rattle.go_expr_core.specs.declared.things.Use.{Use}
use Rattle.go_expr_core.specs.local_core.declared.Fault.{Fault}
use Rattle.go_expr_core.specs.Looks.{Looks}
use Rattle.go_expr_core.specs.Faults.{fault_at}
use Rattle.go_stmt_core.specs.piece.Values.{variable, is_call_alone, list_start, behind, given, is_unknown, list_uses, list_faults}
use Rattle.go_stmt_core.specs.piece.Types.{some_written_type, some_type_uses, some_type_faults}

-- the first byte of some names
abbrev pub names_start : Separated Ident → ℕ
names_start (One x) = x.span.start
names_start (Then x comma more) = x.span.start

-- the list behind `=`, where one stands

abbrev pub values_uses : {T S D P : Type 0} → Looks T S D P → Option (Span × Separated ExprTree) → List (Use D P)
values_uses looks None = []
values_uses looks (Some v) = list_uses looks v.1

abbrev pub values_faults : {T S D P : Type 0} → Looks T S D P → Option (Span × Separated ExprTree) → List Fault
values_faults looks None = []
values_faults looks (Some v) = list_faults looks v.1

abbrev pub values_given : {T S D P : Type 0} → Looks T S D P → Option (Span × Separated ExprTree) → List (Argument T)
values_given looks None = []
values_given looks (Some v) = given looks v.1

abbrev pub spec_uses : {T S D P : Type 0} → Looks T S D P → ValueSpecTree → List (Use D P)
spec_uses looks v = some_type_uses looks v.type_expr ++ values_uses looks v.values

-- variables: without a list they are given nothing, and break nothing

abbrev pub variables_faults : {T S D P : Type 0} → Looks T S D P → Separated Ident → Option (Option T) → Option (Span × Separated ExprTree) → List Fault
variables_faults looks xs written None = []
variables_faults looks xs written (Some es) = fault_at (names_start xs) (variables_rule looks.types written (length (idents xs)) (is_unknown looks es.1) (given looks es.1))

abbrev pub variable_types : {T S D P : Type 0} → Looks T S D P → Separated Ident → Option (Option T) → Option (Span × Separated ExprTree) → List (Option T)
variable_types looks xs written es = declared_types looks.types written (length (idents xs)) (values_given looks es)

-- variables outside functions: what is no constant is refused

abbrev pub initials_faults : {T S D P : Type 0} → Looks T S D P → Separated Ident → Option (Option T) → Option (Span × Separated ExprTree) → List Fault
initials_faults looks xs written None = []
initials_faults looks xs written (Some es) = fault_at (names_start xs) (initials_rule looks.types written (length (idents xs)) (is_call_alone es.1) (given looks es.1))

-- constants

-- where the rule of one constant lies: Y7 at its expression, Y4 at the first name
abbrev pub constant_place : ℕ → ℕ → Rule → ℕ
constant_place first place Y7 = place
constant_place first place _ = first

abbrev pub constant_fault : ℕ → ℕ → Option Rule → List Fault
constant_fault first place None = []
constant_fault first place (Some rule) = fault_at (constant_place first place rule) (Some rule)

-- what each of the values of a list breaks, at its own expression
abbrev pub each_constant_faults : {T : Type 0} → TypeRules T → Option (Option T) → ℕ → Separated ExprTree → List (Argument T) → List Fault
each_constant_faults rules written first es [] = []
each_constant_faults rules written first es (a ∷ more) =
    constant_fault first (list_start es) (constant_answer rules written a).rule ++ each_constant_faults rules written first (behind es) more

abbrev pub constants_faults : {T S D P : Type 0} → Looks T S D P → Separated Ident → Option (Option T) → Option (Span × Separated ExprTree) → List Fault
constants_faults looks xs written None = []
constants_faults looks xs written (Some es) =
    fault_at (names_start xs) (constants_rule looks.types (is_call_alone es.1) (length (idents xs)) (given looks es.1))
    ++ each_constant_faults looks.types written (names_start xs) es.1 (given looks es.1)

abbrev pub constant_value : {T : Type 0} → TypeRules T → Option (Option T) → Argument T → Option (Operand T)
constant_value rules written a = (constant_answer rules written a).value

-- each constant has the value of its own; where there is not one for each, they are as those of which it is refused
abbrev pub constant_values : {T : Type 0} → TypeRules T → Option (Option T) → ℕ → List (Argument T) → List (Option (Operand T))
constant_values rules written n given = if n == length given then map (constant_value rules written) given else replicate n (constant_value rules written arguments.Refused)

-- both

abbrev pub own_faults : {T S D P : Type 0} → Looks T S D P → ValueKind → Separated Ident → Option (Option T) → Option (Span × Separated ExprTree) → List Fault
own_faults looks kinds.Const xs written es = constants_faults looks xs written es
own_faults looks kinds.Var xs written es = variables_faults looks xs written es

abbrev pub spec_faults : {T S D P : Type 0} → Looks T S D P → ValueKind → ValueSpecTree → List Fault
spec_faults looks kind v = some_type_faults looks v.type_expr ++ (values_faults looks v.values ++ own_faults looks kind v.names (some_written_type looks v.type_expr) v.values)

-- what each of the names stands for, by the type that is written
abbrev pub names_values : {T S D P : Type 0} → Looks T S D P → ValueKind → Separated Ident → Option (Option T) → Option (Span × Separated ExprTree) → List (Option (Operand T))
names_values looks kinds.Const xs written es = constant_values looks.types written (length (idents xs)) (values_given looks es)
names_values looks kinds.Var xs written es = map variable (variable_types looks xs written es)

abbrev pub spec_values : {T S D P : Type 0} → Looks T S D P → ValueKind → ValueSpecTree → List (Option (Operand T))
spec_values looks kind v = names_values looks kind v.names (some_written_type looks v.type_expr) v.values

-- outside functions

abbrev pub own_outer_faults : {T S D P : Type 0} → Looks T S D P → ValueKind → Separated Ident → Option (Option T) → Option (Span × Separated ExprTree) → List Fault
own_outer_faults looks kinds.Const xs written es = constants_faults looks xs written es
own_outer_faults looks kinds.Var xs written es = initials_faults looks xs written es

-- what a specification outside functions breaks, but for the rule of what is no constant
abbrev pub outer_faults : {T S D P : Type 0} → Looks T S D P → ValueKind → ValueSpecTree → List Fault
outer_faults looks kind v = some_type_faults looks v.type_expr ++ (values_faults looks v.values ++ own_outer_faults looks kind v.names (some_written_type looks v.type_expr) v.values)

-- what each of so many names stands for there, by the type that is written and the values that are given
abbrev pub outer_values_of : {T : Type 0} → TypeRules T → ValueKind → Option (Option T) → ℕ → List (Argument T) → List (Option (Operand T))
outer_values_of rules kinds.Const written n given = constant_values rules written n given
outer_values_of rules kinds.Var written n given = map variable (initial_types rules written n given)

abbrev pub outer_values : {T S D P : Type 0} → Looks T S D P → ValueKind → ValueSpecTree → List (Option (Operand T))
outer_values looks kind v = outer_values_of looks.types kind (some_written_type looks v.type_expr) (length (idents v.names)) (values_given looks v.values)
