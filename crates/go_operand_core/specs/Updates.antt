-- `x op= y`, `x++` and `x--`.
use Rattle.std.specs.Prelude.{Option, Some, None, Result, Ok, Err, if◌then◌else◌, pos}
use Rattle.go_token_core.specs.text_core.declared.rule.Rule.{Rule}
use Rattle.go_token_core.specs.text_core.declared.rule.Rule.TheVariants.{Y3}
use Rattle.go_token_core.specs.declared.kind.Operator.{Operator}
use Rattle.go_token_core.specs.declared.kind.Operator.TheVariants as operators
use Rattle.go_constant_core.specs.declared.values.Constant.TheVariants as constants
use Rattle.go_operand_core.specs.declared.types.ValueType.TheVariants as types
use Rattle.go_operand_core.specs.declared.types.Operand.{Operand}
use Rattle.go_operand_core.specs.TypeRules.{TypeRules}
use Rattle.go_operand_core.specs.Operators.{refused_binary, binary_operand, value}

-- the operator in front of `=`; what is no assignment operation stands for itself
abbrev pub operator_of : Operator → Operator
operator_of operators.PlusAssign = operators.Plus
operator_of operators.MinusAssign = operators.Minus
operator_of operators.StarAssign = operators.Star
operator_of operators.SlashAssign = operators.Slash
operator_of operators.PercentAssign = operators.Percent
operator_of operators.AndAssign = operators.And
operator_of operators.OrAssign = operators.Or
operator_of operators.CaretAssign = operators.Caret
operator_of operators.ShiftLeftAssign = operators.ShiftLeft
operator_of operators.ShiftRightAssign = operators.ShiftRight
operator_of operators.AndNotAssign = operators.AndNot
operator_of op = op

abbrev pub broken : {T : Type 0} → Result (Operand T) Rule → Option Rule
broken (Ok o) = None
broken (Err r) = Some r

abbrev pub update_with : {T : Type 0} → TypeRules T → Operator → Option Rule → Operand T → Operand T → Option Rule
update_with rules op (Some r) target o = Some r
update_with rules op None target o = if target.addressable then broken (binary_operand rules op target o) else Some Y3

-- the rule that `x op y` breaks, if it breaks one: bit operators whatever stands there, then a target that is not addressable
abbrev pub update_by : {T : Type 0} → TypeRules T → Operator → Operand T → Operand T → Option Rule
update_by rules op target o = update_with rules op (refused_binary op) target o

abbrev pub update : {T : Type 0} → TypeRules T → Operator → Operand T → Operand T → Option Rule
update rules op target o = update_by rules (operator_of op) target o

-- `x++` and `x--` add and subtract the untyped constant 1: the types are asked alike
abbrev pub increment : {T : Type 0} → TypeRules T → Operand T → Option Rule
increment rules target = update_by rules operators.Plus target (value types.UntypedInt (Some (constants.Int (pos 1))))
