-- Laws of variables: addresses, what pointers point to, and what changes a variable.
use Rattle.std.specs.Prelude.{◌≡◌, ◌↔◌, Bool, true, false, ◌||◌, IsTrue, IsOk, Option, Some, None, Ok, Err}
use Rattle.go_token_core.specs.text_core.declared.rule.Rule.TheVariants.{Y3}
use Rattle.go_token_core.specs.declared.kind.Operator.{Operator}
use Rattle.go_token_core.specs.declared.kind.Operator.TheVariants as operators
use Rattle.go_constant_core.specs.declared.values.Constant.{Constant}
use Rattle.go_term_core.specs.declared.term.Basic.TheVariants as basics
use Rattle.go_operand_core.specs.declared.types.ValueType.{ValueType}
use Rattle.go_operand_core.specs.declared.types.ValueType.TheVariants as types
use Rattle.go_operand_core.specs.declared.types.Operand.{Operand}
use Rattle.go_operand_core.specs.declared.types.TypeForm.TheVariants as forms
use Rattle.go_operand_core.specs.TypeRules.{TypeRules}
use Rattle.go_operand_core.specs.Values.{basic_under}
use Rattle.go_operand_core.specs.Operators.{binary_operand}
use Rattle.go_operand_core.specs.Prefixes.{unary_operand}
use Rattle.go_operand_core.specs.Updates.{update_by, increment}
use Rattle.go_operand_core.specs.Relations.{HasNoType}
use Rattle.go_operand_core.specs.Laws.{IsArithmetic}

abbrev pub operand : {T : Type 0} → ValueType T → Option Constant → Bool → Operand T
operand v c p = record { value_type = v; constant = c; addressable = p }

-- "Address operators"
pub record AddressesPointBack (T : Type 0) : Type 0 where
  -- the address of a variable or a composite literal is a pointer to its type
  pub address : (rules : TypeRules T) (t : T) (c : Option Constant) (p literal : Bool) → IsTrue (literal || p)
      → unary_operand rules operators.And literal (operand (types.Typed t) c p) ≡ Ok (operand (types.Typed (rules.pointer_to t)) None false)
  pub no_variable : (rules : TypeRules T) (v : ValueType T) (c : Option Constant) → unary_operand rules operators.And false (operand v c false) ≡ Err Y3
  pub no_type : (rules : TypeRules T) (v : ValueType T) (c : Option Constant) (p literal : Bool) → HasNoType v → unary_operand rules operators.And literal (operand v c p) ≡ Err Y3
  -- what a pointer points to is a variable
  pub pointed : (rules : TypeRules T) (t base : T) (c : Option Constant) (p literal : Bool) → rules.form t ≡ forms.Pointer base
      → unary_operand rules operators.Star literal (operand (types.Typed t) c p) ≡ Ok (operand (types.Typed base) None true)
  -- so the variable at the address of a variable has its type
  pub back : (rules : TypeRules T) (t : T) (c : Option Constant) (o : Operand T) → rules.form (rules.pointer_to t) ≡ forms.Pointer t
      → unary_operand rules operators.And false (operand (types.Typed t) c true) ≡ Ok o → unary_operand rules operators.Star false o ≡ Ok (operand (types.Typed t) None true)
  pub no_pointer : (rules : TypeRules T) (v : ValueType T) (c : Option Constant) (p literal : Bool) → HasNoType v → unary_operand rules operators.Star literal (operand v c p) ≡ Err Y3

-- "Assignment statements", "IncDec statements"
pub record UpdatesAssign (T : Type 0) : Type 0 where
  -- `x op= y` stands where x is addressable and `x op y` stands
  pub accepted : (rules : TypeRules T) (op : Operator) (x y : Operand T) → (update_by rules op x y ≡ None) ↔ (IsTrue x.addressable × IsOk (binary_operand rules op x y))
  -- and then `x op y` has the type of x
  pub own : (rules : TypeRules T) (op : Operator) (x y o : Operand T) (t : T) → IsArithmetic op → x.value_type ≡ types.Typed t → binary_operand rules op x y ≡ Ok o
      → o.value_type ≡ types.Typed t
  -- `x++` and `x--` stand where x is a variable over int
  pub increment : (rules : TypeRules T) (x : Operand T) → x.constant ≡ None
      → (increment rules x ≡ None) ↔ (IsTrue x.addressable × (basic_under rules x.value_type ≡ Some basics.Int))
