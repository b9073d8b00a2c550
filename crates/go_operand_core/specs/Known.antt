-- Constants are values of the types that they have.
use Rattle.std.specs.Prelude.{◌≡◌, ⊤, Bool, true, Option, Some, None, Ok}
use Rattle.go_token_core.specs.declared.kind.Operator.{Operator}
use Rattle.go_constant_core.specs.declared.values.Constant.{Constant}
use Rattle.go_term_core.specs.declared.term.Basic.{Basic}
use Rattle.go_operand_core.specs.declared.types.ValueType.{ValueType}
use Rattle.go_operand_core.specs.declared.types.Operand.{Operand}
use Rattle.go_operand_core.specs.TypeRules.{TypeRules}
use Rattle.go_operand_core.specs.Values.{form_basic, basic_under}
use Rattle.go_operand_core.specs.Operators.{binary_operand}
use Rattle.go_operand_core.specs.Prefixes.{unary_operand}
use Rattle.go_operand_core.specs.Relations.{IsValueOf}

-- of two types over bool, int or string that are identical, or of which one is assignable to the other, both are over the same
pub record KeepsKinds {T : Type 0} (rules : TypeRules T) : Type 0 where
  pub identical_alike : (s t : T) → rules.identical s t ≡ true → form_basic (rules.form s) ≡ form_basic (rules.form t)
  pub assignable_alike : (s t : T) (b c : Basic) → rules.assignable s t ≡ true → form_basic (rules.form s) ≡ Some b → form_basic (rules.form t) ≡ Some c → b ≡ c

-- a constant, where there is one, is a value of the basic type that lies under the type
abbrev pub IsOfType : {T : Type 0} → TypeRules T → ValueType T → Option Constant → Type 0
IsOfType rules v None = ⊤
IsOfType rules v (Some k) = (b : Basic) × ((basic_under rules v ≡ Some b) × IsValueOf b k)

abbrev pub IsConstantOfItsType : {T : Type 0} → TypeRules T → Operand T → Type 0
IsConstantOfItsType rules o = IsOfType rules o.value_type o.constant

-- what operators make of values whose constants are of their types has a constant of its type: none that is not known, and none out of range
pub record ConstantsOfTheirTypes (T : Type 0) : Type 0 where
  pub of_two : (rules : TypeRules T) (op : Operator) (a b o : Operand T) → KeepsKinds rules → IsConstantOfItsType rules a → IsConstantOfItsType rules b
      → binary_operand rules op a b ≡ Ok o → IsConstantOfItsType rules o
  pub of_one : (rules : TypeRules T) (op : Operator) (literal : Bool) (a o : Operand T) → IsConstantOfItsType rules a → unary_operand rules op literal a ≡ Ok o → IsConstantOfItsType rules o
