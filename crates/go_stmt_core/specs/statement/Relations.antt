-- What values are given to, what constants are declared as, and what returns give, as the Go specification states it.
use Rattle.std.specs.Prelude.{◌≡◌, ◌≢◌, ℕ, Bool, true, false, List, [], length, slice_get, Option, Some, None}
use Rattle.go_constant_core.specs.declared.values.Constant.{Constant}
use Rattle.go_constant_core.specs.declared.values.Constant.TheVariants as constant
use Rattle.go_term_core.specs.declared.term.Basic.{Basic}
use Rattle.go_expr_core.specs.operand_core.declared.types.ValueType.TheVariants as value_types
use Rattle.go_expr_core.specs.operand_core.declared.types.TypeForm.TheVariants as forms
use Rattle.go_expr_core.specs.operand_core.declared.types.Operand.{Operand}
use Rattle.go_expr_core.specs.operand_core.TypeRules.{TypeRules}
use Rattle.go_expr_core.specs.operand_core.Values.{form_basic, basic_under}
use Rattle.go_expr_core.specs.operand_core.Operators.{value}
use Rattle.go_expr_core.specs.operand_core.Relations.{IsAssignable}
use Rattle.go_expr_core.specs.denote_core.declared.things.Argument.{Argument}
use Rattle.go_expr_core.specs.denote_core.declared.things.Argument.TheVariants as arguments
use Rattle.go_stmt_core.specs.declared.statement.targets.Target.{Target}
use Rattle.go_stmt_core.specs.declared.statement.targets.Target.TheVariants as targets

-- there are as many of one list as of the other, and those at one number belong together
pub record Correspond {X Y : Type 0} (R : X → Y → Type 0) (xs : List X) (ys : List Y) : Type 0 where
  pub count : length xs ≡ length ys
  pub each : (i : ℕ) (x : X) (y : Y) → slice_get xs i ≡ Some x → slice_get ys i ≡ Some y → R x y

-- a value may be given to a target: "Assignment statements"
pub data Takes {T : Type 0} (rules : TypeRules T) (target : Target T) (argument : Argument T) : Type 0 where
  -- an addressable operand, or a variable that is declared with its type: the value is assignable to the type
  to_operand : (t : T) (o : Operand T) → target ≡ targets.Variable t → argument ≡ arguments.«Value» o → IsAssignable rules o.value_type t → Takes rules target argument
  -- `_`: a value that has a type or a default type, any but nil
  to_blank : (o : Operand T) → target ≡ targets.Blank → argument ≡ arguments.«Value» o → o.value_type ≢ value_types.Nil → Takes rules target argument
  -- so it is for a new variable whose type is not written: "Variable declarations"
  to_new : (o : Operand T) → target ≡ targets.New → argument ≡ arguments.«Value» o → o.value_type ≢ value_types.Nil → Takes rules target argument
  -- a target without a type takes each value
  to_typeless : target ≡ targets.Typeless → Takes rules target argument
  -- what is refused breaks no rule
  of_refused : target ≢ targets.Fixed → argument ≡ arguments.Refused → Takes rules target argument

-- an assignment stands
pub record IsAssigned {T : Type 0} (rules : TypeRules T) (ts : List (Target T)) (is_free : Bool) (given : List (Argument T)) : Type 0 where
  -- each left side is addressable or `_`
  pub left_sides : (i : ℕ) (target : Target T) → slice_get ts i ≡ Some target → target ≢ targets.Fixed
  -- where it is known which values there are, there is one for each
  pub values : is_free ≡ false → Correspond (Takes rules) ts given

-- a result is given a value: "Return statements"
pub data IsReturned {T : Type 0} (rules : TypeRules T) (wanted : Option T) (argument : Argument T) : Type 0 where
  to_result : (t : T) (o : Operand T) → wanted ≡ Some t → argument ≡ arguments.«Value» o → IsAssignable rules o.value_type t → IsReturned rules wanted argument
  to_typeless : wanted ≡ None → IsReturned rules wanted argument
  of_refused : argument ≡ arguments.Refused → IsReturned rules wanted argument

-- a return stands
pub data Returns {T : Type 0} (rules : TypeRules T) (results : List (Option T)) (has_names is_free : Bool) (given : List (Argument T)) : Type 0 where
  -- nothing is known of its values
  not_known : is_free ≡ true → Returns rules results has_names is_free given
  -- there are none, and the results have names
  empty_with_names : has_names ≡ true → given ≡ [] → Returns rules results has_names is_free given
  -- there is one for each result; so none, where there are no results
  of_values : Correspond (IsReturned rules) results given → Returns rules results has_names is_free given

-- what is given is a constant over bool, int or string
pub record IsConstant {T : Type 0} (rules : TypeRules T) (given : Argument T) (o : Operand T) (k : Constant) : Type 0 where
  pub given_is : given ≡ arguments.«Value» o
  pub constant_is : o.constant ≡ Some k
  pub basic : Basic
  pub over : basic_under rules o.value_type ≡ Some basic

-- what a constant is declared as where no rule is broken: "Constant declarations"
pub data IsDeclaredAs {T : Type 0} (rules : TypeRules T) (written : Option (Option T)) (given : Argument T) (declared : Option (Operand T)) : Type 0 where
  -- no type is written: the constant has the type of its expression, an untyped one included, and its value
  of_expression : (o : Operand T) (k : Constant) → written ≡ None → IsConstant rules given o k → declared ≡ Some (value o.value_type (Some k)) → IsDeclaredAs rules written given declared
  -- a type over bool, int or string is written, to which the expression is assignable: the constant has this type
  of_written_type : (t : T) (b : Basic) (o : Operand T) (k : Constant) → written ≡ Some (Some t) → rules.form t ≡ forms.Basic b → IsConstant rules given o k
      → IsAssignable rules o.value_type t → declared ≡ Some (value (value_types.Typed t) (Some k)) → IsDeclaredAs rules written given declared
  -- what is written is no type, or the expression is refused
  of_no_type : (o : Operand T) (k : Constant) → written ≡ Some None → IsConstant rules given o k → declared ≡ None → IsDeclaredAs rules written given declared
  of_refused : written ≡ None → given ≡ arguments.Refused → declared ≡ None → IsDeclaredAs rules written given declared
  of_refused_no_type : written ≡ Some None → given ≡ arguments.Refused → declared ≡ None → IsDeclaredAs rules written given declared
  -- refused, with a written type: a constant of that type whose value is not known
  of_refused_typed : (t : T) (b : Basic) → written ≡ Some (Some t) → rules.form t ≡ forms.Basic b → given ≡ arguments.Refused
      → declared ≡ Some (value (value_types.Typed t) (Some constant.Unknown)) → IsDeclaredAs rules written given declared

-- a constant is declared of what is none
pub data IsNoConstant {T : Type 0} (rules : TypeRules T) (written : Option (Option T)) (given : Argument T) : Type 0 where
  -- the written type is not over bool, int or string
  other_type : (t : T) → written ≡ Some (Some t) → form_basic (rules.form t) ≡ None → IsNoConstant rules written given
  -- a call without results
  no_value : given ≡ arguments.Void → IsNoConstant rules written given
  -- a value that is not constant
  variable : (o : Operand T) → given ≡ arguments.«Value» o → o.constant ≡ None → IsNoConstant rules written given
  -- a value that is not over bool, int or string
  other_value : (o : Operand T) → given ≡ arguments.«Value» o → basic_under rules o.value_type ≡ None → IsNoConstant rules written given

-- a constant is declared of one of another type than is written
pub record IsOfOtherType {T : Type 0} (rules : TypeRules T) (written : Option (Option T)) (given : Argument T) : Type 0 where
  pub t : T
  pub written_is : written ≡ Some (Some t)
  pub basic : Basic
  pub form_is : rules.form t ≡ forms.Basic basic
  pub o : Operand T
  pub k : Constant
  pub constant : IsConstant rules given o k
  pub not_assignable : IsAssignable rules o.value_type t → ⊥
