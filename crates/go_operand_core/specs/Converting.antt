-- The law of conversions.
use Rattle.std.specs.Prelude.{◌≡◌, false, IsTrue, IsOk, Some, None, Ok, Err}
use Rattle.go_token_core.specs.text_core.declared.rule.Rule.TheVariants.{C4, X1}
use Rattle.go_term_core.specs.declared.term.Basic.{Basic}
use Rattle.go_term_core.specs.declared.term.Basic.TheVariants as basics
use Rattle.go_operand_core.specs.declared.types.ValueType.{ValueType}
use Rattle.go_operand_core.specs.declared.types.ValueType.TheVariants as types
use Rattle.go_operand_core.specs.declared.types.Operand.{Operand}
use Rattle.go_operand_core.specs.TypeRules.{TypeRules}
use Rattle.go_operand_core.specs.Values.{form_basic, basic_under}
use Rattle.go_operand_core.specs.Conversions.{convert}
use Rattle.go_operand_core.specs.Relations.{IsAssignable}

-- a value is convertible to a type: it is assignable to it, or the types are alike beside that
pub data IsConvertible {T : Type 0} (rules : TypeRules T) (v : ValueType T) (t : T) : Type 0 where
  by_assignment : IsAssignable rules v t → IsConvertible rules v t
  by_types : (s : T) → v ≡ types.Typed s → IsTrue (rules.convertible s t) → IsConvertible rules v t

-- an integer, and a type over string
pub record MakesText {T : Type 0} (rules : TypeRules T) (v : ValueType T) (t : T) : Type 0 where
  pub integer : basic_under rules v ≡ Some basics.Int
  pub text : form_basic (rules.form t) ≡ Some basics.Text

-- what comes of a conversion to a type: a value of the type, with the constant where the type is over bool, int or string
pub record IsConverted {T : Type 0} (rules : TypeRules T) (o : Operand T) (t : T) (p : Operand T) : Type 0 where
  pub own_type : p.value_type ≡ types.Typed t
  pub no_variable : p.addressable ≡ false
  pub constant : (b : Basic) → form_basic (rules.form t) ≡ Some b → p.constant ≡ o.constant
  pub not_constant : form_basic (rules.form t) ≡ None → p.constant ≡ None

-- "Conversions"
pub record ConversionsAreListed (T : Type 0) : Type 0 where
  pub integer_to_text : (rules : TypeRules T) (o : Operand T) (t : T) → MakesText rules o.value_type t → convert rules o t ≡ Err X1
  pub refused : (rules : TypeRules T) (o : Operand T) (t : T) → (MakesText rules o.value_type t → ⊥) → (IsConvertible rules o.value_type t → ⊥) → convert rules o t ≡ Err C4
  pub accepts : (rules : TypeRules T) (o : Operand T) (t : T) → (MakesText rules o.value_type t → ⊥) → IsConvertible rules o.value_type t → IsOk (convert rules o t)
  pub accepted : (rules : TypeRules T) (o p : Operand T) (t : T) → convert rules o t ≡ Ok p → IsConvertible rules o.value_type t
  pub converted : (rules : TypeRules T) (o p : Operand T) (t : T) → convert rules o t ≡ Ok p → IsConverted rules o t p
