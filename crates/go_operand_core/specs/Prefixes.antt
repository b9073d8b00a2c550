-- Unary operators.
use Rattle.std.specs.Prelude.{Bool, true, ◌||◌, Option, Some, None, Result, Ok, Err, if◌then◌else◌}
use Rattle.go_token_core.specs.text_core.declared.rule.Rule.{Rule}
use Rattle.go_token_core.specs.text_core.declared.rule.Rule.TheVariants.{Y3, X1}
use Rattle.go_token_core.specs.declared.kind.Operator.{Operator}
use Rattle.go_token_core.specs.declared.kind.Operator.TheVariants as operators
use Rattle.go_constant_core.specs.declared.values.Constant.{Constant}
use Rattle.go_constant_core.specs.Values as constants
use Rattle.go_term_core.specs.declared.term.Basic.{Basic}
use Rattle.go_term_core.specs.declared.term.Basic.TheVariants as basics
use Rattle.go_operand_core.specs.declared.types.ValueType.{ValueType}
use Rattle.go_operand_core.specs.declared.types.ValueType.TheVariants as types
use Rattle.go_operand_core.specs.declared.types.Operand.{Operand}
use Rattle.go_operand_core.specs.declared.types.TypeForm.{TypeForm}
use Rattle.go_operand_core.specs.declared.types.TypeForm.TheVariants as forms
use Rattle.go_operand_core.specs.declared.prefixes.Prefix.{Prefix}
use Rattle.go_operand_core.specs.declared.prefixes.Prefix.TheVariants as prefixes
use Rattle.go_operand_core.specs.TypeRules.{TypeRules}
use Rattle.go_operand_core.specs.Values.{is_over, basic_under}
use Rattle.go_operand_core.specs.Operators.{value, computed}

-- what an operator is for in front of an operand; `^`, and what is no unary operator, are outside the profile
abbrev pub prefix : Operator → Prefix
prefix operators.Plus = prefixes.Sign
prefix operators.Minus = prefixes.Sign
prefix operators.Not = prefixes.Negation
prefix operators.Star = prefixes.Indirection
prefix operators.And = prefixes.Address
prefix _ = prefixes.Bits

-- constant where the operand is
abbrev pub signed : {T : Type 0} → Operator → ValueType T → Option Constant → Result (Operand T) Rule
signed op v None = Ok (value v None)
signed op v (Some c) = computed v (constants.unary op c)

-- the variable that a pointer points to
abbrev pub pointed : {T : Type 0} → TypeForm T → Result (Operand T) Rule
pointed forms.Nothing = Err Y3
pointed (forms.Basic b) = Err Y3
pointed (forms.Pointer t) = Ok (record { value_type = types.Typed t; constant = None; addressable = true })
pointed forms.Struct = Err Y3
pointed forms.Interface = Err Y3

abbrev pub indirection : {T : Type 0} → TypeRules T → ValueType T → Result (Operand T) Rule
indirection rules (types.Typed t) = pointed (rules.form t)
indirection rules types.UntypedInt = Err Y3
indirection rules types.UntypedText = Err Y3
indirection rules types.UntypedBool = Err Y3
indirection rules types.Nil = Err Y3

-- a pointer to a variable, or to a composite literal
abbrev pub address : {T : Type 0} → TypeRules T → Bool → ValueType T → Result (Operand T) Rule
address rules may (types.Typed t) = if may then Ok (value (types.Typed (rules.pointer_to t)) None) else Err Y3
address rules may types.UntypedInt = Err Y3
address rules may types.UntypedText = Err Y3
address rules may types.UntypedBool = Err Y3
address rules may types.Nil = Err Y3

-- over the basic type that the operator takes
abbrev pub signed_over : {T : Type 0} → TypeRules T → Basic → Operator → Operand T → Result (Operand T) Rule
signed_over rules b op o = if is_over b (basic_under rules o.value_type) then signed op o.value_type o.constant else Err Y3

abbrev pub unary_in : {T : Type 0} → TypeRules T → Prefix → Operator → Bool → Operand T → Result (Operand T) Rule
unary_in rules prefixes.Sign op literal o = signed_over rules basics.Int op o
unary_in rules prefixes.Negation op literal o = signed_over rules basics.Bool op o
unary_in rules prefixes.Indirection op literal o = indirection rules o.value_type
unary_in rules prefixes.Address op literal o = address rules (literal || o.addressable) o.value_type
unary_in rules prefixes.Bits op literal o = Err X1

-- what a unary operator makes of an operand, which may be a composite literal
abbrev pub unary_operand : {T : Type 0} → TypeRules T → Operator → Bool → Operand T → Result (Operand T) Rule
unary_operand rules op literal o = unary_in rules (prefix op) op literal o

abbrev pub refused_prefix : Prefix → Option Rule
refused_prefix prefixes.Bits = Some X1
refused_prefix prefixes.Sign = None
refused_prefix prefixes.Negation = None
refused_prefix prefixes.Indirection = None
refused_prefix prefixes.Address = None

-- the rule of an operator behind which the operand is refused: `^` is outside whatever it stands before
abbrev pub refused_unary : Operator → Option Rule
refused_unary op = refused_prefix (prefix op)
