-- Binary operators: what they make of two operands, or the rule that is broken.
use Rattle.std.specs.Prelude.{Bool, true, false, ◌&&◌, ◌||◌, Option, Some, None, Result, Ok, Err, if◌then◌else◌}
use Rattle.go_token_core.specs.text_core.declared.rule.Rule.{Rule}
use Rattle.go_token_core.specs.text_core.declared.rule.Rule.TheVariants.{Y3, Y7, X1}
use Rattle.go_token_core.specs.declared.kind.Operator.{Operator}
use Rattle.go_token_core.specs.declared.kind.Operator.TheVariants as operators
use Rattle.go_constant_core.specs.declared.values.Constant.{Constant}
use Rattle.go_constant_core.specs.Values as constants
use Rattle.go_term_core.specs.declared.term.Basic.{Basic}
use Rattle.go_term_core.specs.declared.term.Basic.TheVariants as basics
use Rattle.go_operand_core.specs.declared.types.ValueType.{ValueType}
use Rattle.go_operand_core.specs.declared.types.ValueType.TheVariants as types
use Rattle.go_operand_core.specs.declared.types.Operand.{Operand}
use Rattle.go_operand_core.specs.declared.operators.Group.{Group}
use Rattle.go_operand_core.specs.declared.operators.Group.TheVariants as groups
use Rattle.go_operand_core.specs.TypeRules.{TypeRules}
use Rattle.go_operand_core.specs.Values.{is_over, basic_under}
use Rattle.go_operand_core.specs.Assign.{common, comparable}

-- what an operator is for; bit operators and shifts, and what is no binary operator, are outside the profile
abbrev pub group : Operator → Group
group operators.LogicalAnd = groups.Logic
group operators.LogicalOr = groups.Logic
group operators.Plus = groups.Sum
group operators.Minus = groups.Arithmetic
group operators.Star = groups.Arithmetic
group operators.Slash = groups.Arithmetic
group operators.Percent = groups.Arithmetic
group operators.Equal = groups.Equality
group operators.NotEqual = groups.Equality
group operators.Less = groups.Order
group operators.LessEqual = groups.Order
group operators.Greater = groups.Order
group operators.GreaterEqual = groups.Order
group _ = groups.Bits

-- the operator divides
abbrev pub divides : Operator → Bool
divides operators.Slash = true
divides operators.Percent = true
divides _ = false

-- the basic types that an operator takes: `&& ||` bool, `+` and orders int and string, other arithmetic int
abbrev pub takes : Group → Option Basic → Bool
takes groups.Logic b = is_over basics.Bool b
takes groups.Sum b = is_over basics.Int b || is_over basics.Text b
takes groups.Arithmetic b = is_over basics.Int b
takes groups.Order b = is_over basics.Int b || is_over basics.Text b
takes groups.Equality b = false
takes groups.Bits b = false

abbrev pub is_some_zero : Option Constant → Bool
is_some_zero None = false
is_some_zero (Some c) = constants.is_zero c

-- the rule of a constant that is out of range: of a typed one Y7, of an untyped one X1
abbrev pub out_of_range : {T : Type 0} → ValueType T → Rule
out_of_range (types.Typed t) = Y7
out_of_range types.UntypedInt = X1
out_of_range types.UntypedText = X1
out_of_range types.UntypedBool = X1
out_of_range types.Nil = X1

-- a value that is no variable
abbrev pub value : {T : Type 0} → ValueType T → Option Constant → Operand T
value v c = record { value_type = v; constant = c; addressable = false }

abbrev pub computed : {T : Type 0} → ValueType T → Option Constant → Result (Operand T) Rule
computed v None = Err (out_of_range v)
computed v (Some c) = Ok (value v (Some c))

-- constant where both operands are
abbrev pub with_constants : {T : Type 0} → ValueType T → Operator → Option Constant → Option Constant → Result (Operand T) Rule
with_constants v op None y = Ok (value v None)
with_constants v op (Some c) None = Ok (value v None)
with_constants v op (Some c) (Some d) = computed v (constants.binary op c d)

abbrev pub arithmetic : {T : Type 0} → TypeRules T → Operator → Option (ValueType T) → Option Constant → Option Constant → Result (Operand T) Rule
arithmetic rules op None x y = Err Y3
arithmetic rules op (Some v) x y =
    if takes (group op) (basic_under rules v)
    then (if divides op && is_some_zero y then Err Y7 else with_constants v op x y)
    else Err Y3

-- a comparison gives an untyped boolean
abbrev pub ordered : {T : Type 0} → TypeRules T → Operator → Option (ValueType T) → Option Constant → Option Constant → Result (Operand T) Rule
ordered rules op None x y = Err Y3
ordered rules op (Some v) x y = if takes (group op) (basic_under rules v) then with_constants types.UntypedBool op x y else Err Y3

abbrev pub equated : {T : Type 0} → Operator → Bool → Option Constant → Option Constant → Result (Operand T) Rule
equated op compares x y = if compares then with_constants types.UntypedBool op x y else Err Y3

abbrev pub binary_in : {T : Type 0} → TypeRules T → Group → Operator → Operand T → Operand T → Result (Operand T) Rule
binary_in rules groups.Bits op a b = Err X1
binary_in rules groups.Logic op a b = arithmetic rules op (common rules a.value_type b.value_type) a.constant b.constant
binary_in rules groups.Sum op a b = arithmetic rules op (common rules a.value_type b.value_type) a.constant b.constant
binary_in rules groups.Arithmetic op a b = arithmetic rules op (common rules a.value_type b.value_type) a.constant b.constant
binary_in rules groups.Order op a b = ordered rules op (common rules a.value_type b.value_type) a.constant b.constant
binary_in rules groups.Equality op a b = equated op (comparable rules a.value_type b.value_type) a.constant b.constant

-- what a binary operator makes of two operands
abbrev pub binary_operand : {T : Type 0} → TypeRules T → Operator → Operand T → Operand T → Result (Operand T) Rule
binary_operand rules op a b = binary_in rules (group op) op a b

abbrev pub refused_in : Group → Option Rule
refused_in groups.Bits = Some X1
refused_in groups.Logic = None
refused_in groups.Sum = None
refused_in groups.Arithmetic = None
refused_in groups.Order = None
refused_in groups.Equality = None

-- the rule of an operator beside which an operand is refused: bit operators and shifts are outside whatever they stand between
abbrev pub refused_binary : Operator → Option Rule
refused_binary op = refused_in (group op)
