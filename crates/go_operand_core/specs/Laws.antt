-- Laws of operands.
use Rattle.std.specs.Prelude.{◌≡◌, ◌↔◌, ◌⊎◌, Bool, true, false, IsTrue, Some, None, IsSome, Result, Ok, Err}
use Rattle.go_token_core.specs.text_core.declared.rule.Rule.{Rule}
use Rattle.go_token_core.specs.text_core.declared.rule.Rule.TheVariants.{Y3, X1}
use Rattle.go_token_core.specs.declared.kind.Operator.{Operator}
use Rattle.go_token_core.specs.declared.kind.Operator.TheVariants as operators
use Rattle.go_constant_core.specs.declared.values.Constant.{Constant}
use Rattle.go_term_core.specs.declared.term.Basic.{Basic}
use Rattle.go_term_core.specs.declared.term.Basic.TheVariants as basics
use Rattle.go_operand_core.specs.declared.types.ValueType.{ValueType}
use Rattle.go_operand_core.specs.declared.types.ValueType.TheVariants as types
use Rattle.go_operand_core.specs.declared.types.Operand.{Operand}
use Rattle.go_operand_core.specs.declared.types.TypeForm.TheVariants as forms
use Rattle.go_operand_core.specs.TypeRules.{TypeRules}
use Rattle.go_operand_core.specs.Values.{untyped}
use Rattle.go_operand_core.specs.Assign.{assignable_to, common, comparable}
use Rattle.go_operand_core.specs.Operators.{binary_operand}
use Rattle.go_operand_core.specs.Prefixes.{unary_operand}
use Rattle.go_operand_core.specs.Relations.{IsAssignable, HaveCommon, AreComparable, IsValueOf}

abbrev pub AssignabilityIsARelation : Type 0 → Type 0
AssignabilityIsARelation T = (rules : TypeRules T) (o : Operand T) (t : T) → IsTrue (assignable_to rules o t) ↔ IsAssignable rules o.value_type t

abbrev pub ComparabilityIsARelation : Type 0 → Type 0
ComparabilityIsARelation T = (rules : TypeRules T) (v w : ValueType T) → IsTrue (comparable rules v w) ↔ AreComparable rules v w

abbrev pub CommonIsARelation : Type 0 → Type 0
CommonIsARelation T = (rules : TypeRules T) (v w both : ValueType T) → (common rules v w ≡ Some both) ↔ HaveCommon rules v w both

-- an untyped constant of a basic type is assignable to what is over a second one exactly where it is among the values of that
abbrev pub RepresentableConstants : Type 0 → Type 0
RepresentableConstants T =
    (rules : TypeRules T) (b c : Basic) (k : Constant) (p : Bool) (t : T) → IsValueOf b k → rules.form t ≡ forms.Basic c
    → IsTrue (assignable_to rules (record { value_type = untyped b; constant = Some k; addressable = p }) t) ↔ IsValueOf c k

-- what becomes of two operands of one type: a value of that type, an untyped boolean, operands that do not fit, or what is outside the profile
pub data Verdict : Type 0 where
  OwnType : Verdict
  Boolean : Verdict
  Misfit : Verdict
  Outside : Verdict

abbrev pub column : {A : Type 0} → Basic → A → A → A → A
column basics.Bool x y z = x
column basics.Int x y z = y
column basics.Text x y z = z

abbrev pub plain : {T : Type 0} → ValueType T → Bool → Operand T
plain v p = record { value_type = v; constant = None; addressable = p }

abbrev pub judged : {T : Type 0} → T → Verdict → Result (Operand T) Rule
judged t OwnType = Ok (plain (types.Typed t) false)
judged t Boolean = Ok (plain types.UntypedBool false)
judged t Misfit = Err Y3
judged t Outside = Err X1

-- what a binary operator makes of operands of a type over bool, over int, over string, where neither is constant
abbrev pub Row : Type 0 → Operator → Verdict → Verdict → Verdict → Type 0
Row T op of_bool of_int of_text =
    (rules : TypeRules T) (s t : T) (p q : Bool) (b : Basic) → rules.identical s t ≡ true → rules.assignable s t ≡ true → rules.form s ≡ forms.Basic b
    → binary_operand rules op (plain (types.Typed s) p) (plain (types.Typed t) q) ≡ judged s (column b of_bool of_int of_text)

-- what a unary operator makes of one
abbrev pub UnaryRow : Type 0 → Operator → Verdict → Verdict → Verdict → Type 0
UnaryRow T op of_bool of_int of_text =
    (rules : TypeRules T) (s : T) (p literal : Bool) (b : Basic) → rules.form s ≡ forms.Basic b
    → unary_operand rules op literal (plain (types.Typed s) p) ≡ judged s (column b of_bool of_int of_text)

-- "Arithmetic operators", "Comparison operators", "Logical operators"
pub record OperatorsAreToldApart (T : Type 0) : Type 0 where
  pub sum : Row T operators.Plus Misfit OwnType OwnType
  pub difference : Row T operators.Minus Misfit OwnType Misfit
  pub product : Row T operators.Star Misfit OwnType Misfit
  pub quotient : Row T operators.Slash Misfit OwnType Misfit
  pub remainder : Row T operators.Percent Misfit OwnType Misfit
  pub conjunction : Row T operators.LogicalAnd OwnType Misfit Misfit
  pub disjunction : Row T operators.LogicalOr OwnType Misfit Misfit
  pub equal : Row T operators.Equal Boolean Boolean Boolean
  pub not_equal : Row T operators.NotEqual Boolean Boolean Boolean
  pub less : Row T operators.Less Misfit Boolean Boolean
  pub less_equal : Row T operators.LessEqual Misfit Boolean Boolean
  pub greater : Row T operators.Greater Misfit Boolean Boolean
  pub greater_equal : Row T operators.GreaterEqual Misfit Boolean Boolean
  pub bits_and : Row T operators.And Outside Outside Outside
  pub bits_or : Row T operators.Or Outside Outside Outside
  pub bits_xor : Row T operators.Caret Outside Outside Outside
  pub bits_clear : Row T operators.AndNot Outside Outside Outside
  pub shift_left : Row T operators.ShiftLeft Outside Outside Outside
  pub shift_right : Row T operators.ShiftRight Outside Outside Outside
  pub plus_sign : UnaryRow T operators.Plus Misfit OwnType Misfit
  pub minus_sign : UnaryRow T operators.Minus Misfit OwnType Misfit
  pub negation : UnaryRow T operators.Not OwnType Misfit Misfit
  pub complement : UnaryRow T operators.Caret Outside Outside Outside
  pub indirection : UnaryRow T operators.Star Misfit Misfit Misfit

abbrev pub IsArithmetic : Operator → Type 0
IsArithmetic op =
    (op ≡ operators.Plus) ⊎ ((op ≡ operators.Minus) ⊎ ((op ≡ operators.Star) ⊎ ((op ≡ operators.Slash) ⊎ ((op ≡ operators.Percent)
    ⊎ ((op ≡ operators.LogicalAnd) ⊎ (op ≡ operators.LogicalOr))))))

abbrev pub IsOrder : Operator → Type 0
IsOrder op = (op ≡ operators.Less) ⊎ ((op ≡ operators.LessEqual) ⊎ ((op ≡ operators.Greater) ⊎ (op ≡ operators.GreaterEqual)))

abbrev pub IsEquality : Operator → Type 0
IsEquality op = (op ≡ operators.Equal) ⊎ (op ≡ operators.NotEqual)

-- two values are of one type, or of one kind, whichever
pub record HaveOneType {T : Type 0} (rules : TypeRules T) (v w : ValueType T) : Type 0 where
  pub both : ValueType T
  pub common : HaveCommon rules v w both

pub record OwnTypes (T : Type 0) : Type 0 where
  -- what an operator gives that is no comparison has the type that both operands have
  pub arithmetic : (rules : TypeRules T) (op : Operator) (a b o : Operand T) → IsArithmetic op → binary_operand rules op a b ≡ Ok o → HaveCommon rules a.value_type b.value_type o.value_type
  -- what is ordered has one type, and the comparison is an untyped boolean
  pub ordered : (rules : TypeRules T) (op : Operator) (a b o : Operand T) → IsOrder op → binary_operand rules op a b ≡ Ok o
      → HaveOneType rules a.value_type b.value_type × (o.value_type ≡ types.UntypedBool)
  pub equated : (rules : TypeRules T) (op : Operator) (a b o : Operand T) → IsEquality op → binary_operand rules op a b ≡ Ok o
      → AreComparable rules a.value_type b.value_type × (o.value_type ≡ types.UntypedBool)

-- what is made of constants alone is constant, and nothing else is
pub record ConstantsInConstantsOut (T : Type 0) : Type 0 where
  pub of_two : (rules : TypeRules T) (op : Operator) (a b o : Operand T) → binary_operand rules op a b ≡ Ok o → IsSome o.constant ↔ (IsSome a.constant × IsSome b.constant)
  pub of_one : (rules : TypeRules T) (op : Operator) (literal : Bool) (a o : Operand T) → ((op ≡ operators.Plus) ⊎ ((op ≡ operators.Minus) ⊎ (op ≡ operators.Not)))
      → unary_operand rules op literal a ≡ Ok o → IsSome o.constant ↔ IsSome a.constant
