-- Laws of what is refused: bit operators and shifts, and divisions by a constant 0.
use Rattle.std.specs.Prelude.{◌≡◌, ◌⊎◌, Bool, Some, None, Err, pos}
use Rattle.go_token_core.specs.text_core.declared.rule.Rule.TheVariants.{Y3, Y7, X1}
use Rattle.go_token_core.specs.declared.kind.Operator.{Operator}
use Rattle.go_token_core.specs.declared.kind.Operator.TheVariants as operators
use Rattle.go_constant_core.specs.declared.values.Constant.TheVariants as constant
use Rattle.go_term_core.specs.declared.term.Basic.TheVariants as basics
use Rattle.go_operand_core.specs.declared.types.ValueType.{ValueType}
use Rattle.go_operand_core.specs.declared.types.Operand.{Operand}
use Rattle.go_operand_core.specs.TypeRules.{TypeRules}
use Rattle.go_operand_core.specs.Values.{basic_under}
use Rattle.go_operand_core.specs.Operators.{binary_operand, refused_binary}
use Rattle.go_operand_core.specs.Prefixes.{unary_operand, refused_unary}
use Rattle.go_operand_core.specs.Relations.{HaveCommon}
use Rattle.go_operand_core.specs.Laws.{IsArithmetic, IsOrder, IsEquality}

-- `&`, `|`, `^`, `&^`, `<<` and `>>` between operands
abbrev pub IsBitOperator : Operator → Type 0
IsBitOperator op =
    (op ≡ operators.And) ⊎ ((op ≡ operators.Or) ⊎ ((op ≡ operators.Caret) ⊎ ((op ≡ operators.AndNot) ⊎ ((op ≡ operators.ShiftLeft)
    ⊎ (op ≡ operators.ShiftRight)))))

-- `+`, `-`, `!`, `*` and `&` in front of an operand
abbrev pub IsPrefixOperator : Operator → Type 0
IsPrefixOperator op = (op ≡ operators.Plus) ⊎ ((op ≡ operators.Minus) ⊎ ((op ≡ operators.Not) ⊎ ((op ≡ operators.Star) ⊎ (op ≡ operators.And))))

-- bit operators and shifts are X1 whatever they stand between, refused operands included; no other operator is, beside a refused operand
pub record BitsAreOutside (T : Type 0) : Type 0 where
  pub two : (rules : TypeRules T) (op : Operator) (a b : Operand T) → IsBitOperator op → binary_operand rules op a b ≡ Err X1
  pub refused_two : (op : Operator) → IsBitOperator op → refused_binary op ≡ Some X1
  pub passed_two : (op : Operator) → (IsArithmetic op ⊎ (IsOrder op ⊎ IsEquality op)) → refused_binary op ≡ None
  pub one : (rules : TypeRules T) (literal : Bool) (a : Operand T) → unary_operand rules operators.Caret literal a ≡ Err X1
  pub refused_one : refused_unary operators.Caret ≡ Some X1
  pub passed_one : (op : Operator) → IsPrefixOperator op → refused_unary op ≡ None

abbrev pub IsDivision : Operator → Type 0
IsDivision op = (op ≡ operators.Slash) ⊎ (op ≡ operators.Percent)

-- the operands have a common type, which is over int
pub record AreIntegers {T : Type 0} (rules : TypeRules T) (v w : ValueType T) : Type 0 where
  pub both : ValueType T
  pub common : HaveCommon rules v w both
  pub over_int : basic_under rules both ≡ Some basics.Int

-- a divisor that is the constant 0 is Y7 where the operands fit; where they do not it is Y3 alone
pub record NoDivisionByZero (T : Type 0) : Type 0 where
  pub by_zero : (rules : TypeRules T) (op : Operator) (a b : Operand T) → IsDivision op → AreIntegers rules a.value_type b.value_type
      → b.constant ≡ Some (constant.Int (pos 0)) → binary_operand rules op a b ≡ Err Y7
  pub misfit : (rules : TypeRules T) (op : Operator) (a b : Operand T) → IsDivision op → (AreIntegers rules a.value_type b.value_type → ⊥)
      → binary_operand rules op a b ≡ Err Y3
