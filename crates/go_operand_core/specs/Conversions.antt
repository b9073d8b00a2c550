-- Conversions, conditions and lengths.
use Rattle.std.specs.Prelude.{Bool, false, ◌&&◌, ◌||◌, Option, Some, None, Result, Ok, Err, if◌then◌else◌}
use Rattle.go_token_core.specs.text_core.declared.rule.Rule.{Rule}
use Rattle.go_token_core.specs.text_core.declared.rule.Rule.TheVariants.{C4, X1}
use Rattle.go_constant_core.specs.declared.values.Constant.{Constant}
use Rattle.go_constant_core.specs.Values as constants
use Rattle.go_term_core.specs.declared.term.Basic.{Basic}
use Rattle.go_term_core.specs.declared.term.Basic.TheVariants as basics
use Rattle.go_operand_core.specs.declared.types.ValueType.{ValueType}
use Rattle.go_operand_core.specs.declared.types.ValueType.TheVariants as types
use Rattle.go_operand_core.specs.declared.types.Operand.{Operand}
use Rattle.go_operand_core.specs.TypeRules.{TypeRules}
use Rattle.go_operand_core.specs.Values.{is_over, form_basic, basic_under}
use Rattle.go_operand_core.specs.Assign.{assignable}
use Rattle.go_operand_core.specs.Operators.{value}

-- a value of a type that is convertible, beside what is assignable
abbrev pub convertible : {T : Type 0} → TypeRules T → ValueType T → T → Bool
convertible rules (types.Typed s) t = rules.convertible s t
convertible rules types.UntypedInt t = false
convertible rules types.UntypedText t = false
convertible rules types.UntypedBool t = false
convertible rules types.Nil t = false

-- an integer becomes a string, which is outside the profile
abbrev pub makes_text : {T : Type 0} → TypeRules T → ValueType T → T → Bool
makes_text rules v t = is_over basics.Int (basic_under rules v) && is_over basics.Text (form_basic (rules.form t))

-- what is over bool, int or string keeps a constant; no other value is constant
abbrev pub kept : Option Basic → Option Constant → Option Constant
kept (Some b) c = c
kept None c = None

-- by assignment, or beside it
abbrev pub fits : {T : Type 0} → TypeRules T → ValueType T → T → Bool
fits rules v t = assignable rules v t || convertible rules v t

-- what a conversion to a type makes of an operand
abbrev pub convert : {T : Type 0} → TypeRules T → Operand T → T → Result (Operand T) Rule
convert rules o t =
    if makes_text rules o.value_type t
    then Err X1
    else (
    if fits rules o.value_type t
    then Ok (value (types.Typed t) (kept (form_basic (rules.form t)) o.constant))
    else Err C4
    )

-- a condition is over bool
abbrev pub is_condition : {T : Type 0} → TypeRules T → Operand T → Bool
is_condition rules o = is_over basics.Bool (basic_under rules o.value_type)

abbrev pub length_constant : Option Constant → Option Constant
length_constant None = None
length_constant (Some c) = Some (constants.text_length c)

-- the length of what is over string, an int, which is constant where the string is
abbrev pub length_of : {T : Type 0} → TypeRules T → Operand T → Option (Operand T)
length_of rules o =
    if is_over basics.Text (basic_under rules o.value_type)
    then Some (value (types.Typed rules.int) (length_constant o.constant))
    else None
