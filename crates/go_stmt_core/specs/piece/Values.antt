-- The values that a list of expressions gives, as a statement or a declaration takes them.
--
-- docs/RULES.md, "Assignments, declarations, returns, statements". The Go specification, "Assignment statements", "Variable declarations",
-- "Return statements".
use Rattle.std.specs.Prelude.{ℕ, Bool, true, false, List, Option, Some, None}
use Rattle.go_tree_nodes.specs.Trees.{Separated, One, Then, ExprTree}
use Rattle.go_expr_core.specs.operand_core.declared.types.ValueType.TheVariants as value_types
use Rattle.go_expr_core.specs.operand_core.declared.types.Operand.{Operand}
use Rattle.go_expr_core.specs.denote_core.declared.things.Argument.{Argument}
use Rattle.go_expr_core.specs.denote_core.Arguments.{arguments_of, is_free}
use Rattle.go_expr_core.specs.declared.things.Use.{Use}
use Rattle.go_expr_core.specs.local_core.declared.Fault.{Fault}
use Rattle.go_expr_core.specs.Looks.{Looks, look_of_place}
use Rattle.go_expr_core.specs.Places.{is_call, start}
use Rattle.go_expr_core.specs.Lists.{is_list, denoted_exprs, exprs_uses, exprs_faults}

-- a variable stands for an addressable operand of its type, if it has one
abbrev pub variable : {T : Type 0} → Option T → Option (Operand T)
variable None = None
variable (Some t) = Some (record { value_type = value_types.Typed t; constant = None; addressable = true })

-- the only expression of a list is a call, in parentheses or not
abbrev pub is_call_alone : Separated ExprTree → Bool
is_call_alone (One e) = is_call e
is_call_alone (Then e comma more) = false

-- the first byte of a list
abbrev pub list_start : Separated ExprTree → ℕ
list_start (One e) = start e
list_start (Then e comma more) = start e

-- the list from its second expression on; the only one of a list gives all of its values
abbrev pub behind : Separated ExprTree → Separated ExprTree
behind (One e) = One e
behind (Then e comma more) = more

-- the values of a list: a call alone with several results stands for these
abbrev pub given : {T S D P : Type 0} → Looks T S D P → Separated ExprTree → List (Argument T)
given looks es = arguments_of (look_of_place looks (list_start es)) (denoted_exprs looks es)

-- nothing is known of the values: the only expression is a call that is refused
abbrev pub is_unknown : {T S D P : Type 0} → Looks T S D P → Separated ExprTree → Bool
is_unknown looks es = is_free (is_call_alone es) (denoted_exprs looks es)

-- what a list has, and what its expressions break
abbrev pub list_uses : {T S D P : Type 0} → Looks T S D P → Separated ExprTree → List (Use D P)
list_uses looks es = exprs_uses looks es

abbrev pub list_faults : {T S D P : Type 0} → Looks T S D P → Separated ExprTree → List Fault
list_faults looks es = exprs_faults looks (is_list es) es
