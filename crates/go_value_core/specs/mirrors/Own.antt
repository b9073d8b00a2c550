-- What one name of a specification stands for, by its own expression alone.
use Rattle.std.specs.Prelude.{ℕ, Bool, true, false, List, [], ◌∷◌, ◌==◌, length, nat_lt, slice_index_or, Option, Some, None, if◌then◌else◌}
use Rattle.go_constant_core.specs.text_core.declared.span.Span.{Span}
use Rattle.go_tree_nodes.specs.declared.decls.ValueKind.{ValueKind}
use Rattle.go_tree_nodes.specs.declared.decls.ValueKind.TheVariants as kinds
use Rattle.go_tree_nodes.specs.Trees.{Separated, One, Then, ExprTree, ValueSpecTree}
use Rattle.go_stmt_core.specs.operand_core.declared.types.Operand.{Operand}
use Rattle.go_stmt_core.specs.operand_core.TypeRules.{TypeRules}
use Rattle.go_stmt_core.specs.denote_core.declared.things.Stand.TheVariants as stands
use Rattle.go_stmt_core.specs.denote_core.declared.things.Argument.{Argument}
use Rattle.go_stmt_core.specs.denote_core.declared.things.Argument.TheVariants as arguments
use Rattle.go_stmt_core.specs.denote_core.Arguments.{argument_of, arguments_of}
use Rattle.go_stmt_core.specs.statement.Declarations.{given_type, initial_argument}
use Rattle.go_stmt_core.specs.expr_core.Looks.{Looks, look_of_place}
use Rattle.go_stmt_core.specs.expr_core.Places.{start}
use Rattle.go_stmt_core.specs.expr_core.Denoting.{denoted}
use Rattle.go_value_core.specs.Initial.{spec_name_count, some_written_type, variable, constant_value, expr_of}

-- the i-th of n values: refused where there are not as many
abbrev pub one_of : {T : Type 0} → ℕ → ℕ → List (Argument T) → Argument T
one_of n i given = if n == length given then slice_index_or given i arguments.Refused else arguments.Refused

-- a list has one expression
abbrev pub is_one : Separated ExprTree → Bool
is_one (One e) = true
is_one (Then e comma more) = false

abbrev pub is_alone : Option (Span × Separated ExprTree) → Bool
is_alone None = false
is_alone (Some es) = is_one es.1

-- what an expression gives to the i-th of n names, where it stands alone or is its own
abbrev pub given_by : {T S D P : Type 0} → Looks T S D P → ℕ → ℕ → Bool → Option ExprTree → Argument T
given_by looks n i alone None = arguments.Refused
given_by looks n i true (Some e) = one_of n i (arguments_of (look_of_place looks (start e)) (denoted looks stands.«Value» e ∷ []))
given_by looks n i false (Some e) = argument_of (denoted looks stands.«Value» e)

abbrev pub own_argument : {T S D P : Type 0} → Looks T S D P → ValueSpecTree → ℕ → Argument T
own_argument looks v i = given_by looks (spec_name_count v) i (is_alone v.values) (expr_of v i)

-- the type of a variable, by the type that is written and its value, which is refused where it is no constant
abbrev pub type_from : {T : Type 0} → TypeRules T → Option (Option T) → Argument T → Option T
type_from rules (Some t) a = t
type_from rules None a = given_type rules (initial_argument a)

abbrev pub value_from : {T : Type 0} → TypeRules T → ValueKind → Option (Option T) → Argument T → Option (Operand T)
value_from rules kinds.Const written a = constant_value rules written a
value_from rules kinds.Var written a = variable (type_from rules written a)
