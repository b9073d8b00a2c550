-- Assignability, what two operands have in common, and comparability, as the Go specification states them.
use Rattle.std.specs.Prelude.{◌≡◌, ⊤, IsTrue}
use Rattle.go_term_core.specs.declared.term.Basic.{Basic}
use Rattle.go_term_core.specs.declared.term.Basic.TheVariants as basics
use Rattle.go_constant_core.specs.declared.values.Constant.{Constant}
use Rattle.go_constant_core.specs.declared.values.Constant.TheVariants as constants
use Rattle.go_constant_core.specs.Laws.{IsInRange}
use Rattle.go_operand_core.specs.declared.types.ValueType.{ValueType}
use Rattle.go_operand_core.specs.declared.types.ValueType.TheVariants as types
use Rattle.go_operand_core.specs.declared.types.TypeForm.TheVariants as forms
use Rattle.go_operand_core.specs.TypeRules.{TypeRules}
use Rattle.go_operand_core.specs.Values.{untyped, basic_type}

-- a value is assignable to a variable of a type: "Assignability"
pub data IsAssignable {T : Type 0} (rules : TypeRules T) (v : ValueType T) (t : T) : Type 0 where
  -- by its type: identical ones, identical underlying ones of which one is not named, an interface that it implements
  by_type : (s : T) → v ≡ types.Typed s → IsTrue (rules.assignable s t) → IsAssignable rules v t
  -- nil, and a pointer type or an interface type
  nil_to_pointer : (base : T) → v ≡ types.Nil → rules.form t ≡ forms.Pointer base → IsAssignable rules v t
  nil_to_interface : v ≡ types.Nil → rules.form t ≡ forms.Interface → IsAssignable rules v t
  -- an untyped constant that a value of the type represents, or an untyped boolean and a type over bool
  by_kind : (b : Basic) → v ≡ untyped b → rules.form t ≡ forms.Basic b → IsAssignable rules v t
  -- an untyped value, and an interface type that its default type implements
  by_default_type : (b : Basic) → v ≡ untyped b → rules.form t ≡ forms.Interface → IsTrue (rules.assignable (basic_type rules b) t) → IsAssignable rules v t

abbrev pub HasNoType : {T : Type 0} → ValueType T → Type 0
HasNoType (types.Typed t) = ⊥
HasNoType types.UntypedInt = ⊤
HasNoType types.UntypedText = ⊤
HasNoType types.UntypedBool = ⊤
HasNoType types.Nil = ⊤

-- two operands are of one type, or of one untyped kind, after one that is untyped took the type of the other: "Operators"
pub data HaveCommon {T : Type 0} (rules : TypeRules T) (v w both : ValueType T) : Type 0 where
  of_one_type : (s t : T) → v ≡ types.Typed s → w ≡ types.Typed t → IsTrue (rules.identical s t) → both ≡ types.Typed s → HaveCommon rules v w both
  first_takes : (t : T) → HasNoType v → w ≡ types.Typed t → IsAssignable rules v t → both ≡ types.Typed t → HaveCommon rules v w both
  second_takes : (s : T) → v ≡ types.Typed s → HasNoType w → IsAssignable rules w s → both ≡ types.Typed s → HaveCommon rules v w both
  of_one_kind : (b : Basic) → v ≡ untyped b → w ≡ untyped b → both ≡ untyped b → HaveCommon rules v w both

-- the first operand is assignable to the type of the second, or the second to that of the first; untyped ones are of one kind:
-- "Comparison operators"
pub data AreComparable {T : Type 0} (rules : TypeRules T) (v w : ValueType T) : Type 0 where
  first_to_second : (t : T) → w ≡ types.Typed t → IsAssignable rules v t → AreComparable rules v w
  second_to_first : (s : T) → v ≡ types.Typed s → IsAssignable rules w s → AreComparable rules v w
  both_untyped : (b : Basic) → v ≡ untyped b → w ≡ untyped b → AreComparable rules v w

-- a constant is in the set of values of a basic type: "Representability"
abbrev pub IsValueOf : Basic → Constant → Type 0
IsValueOf basics.Bool (constants.Bool b) = ⊤
IsValueOf basics.Bool (constants.Int z) = ⊥
IsValueOf basics.Bool (constants.Text s) = ⊥
IsValueOf basics.Bool constants.Unknown = ⊥
IsValueOf basics.Int (constants.Bool b) = ⊥
IsValueOf basics.Int (constants.Int z) = IsInRange z
IsValueOf basics.Int (constants.Text s) = ⊥
IsValueOf basics.Int constants.Unknown = ⊥
IsValueOf basics.Text (constants.Bool b) = ⊥
IsValueOf basics.Text (constants.Int z) = ⊥
IsValueOf basics.Text (constants.Text s) = ⊤
IsValueOf basics.Text constants.Unknown = ⊥
