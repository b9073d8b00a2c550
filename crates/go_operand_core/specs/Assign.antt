-- Assignability of values, what two operands have in common, and which are comparable.
use Rattle.std.specs.Prelude.{Bool, true, false, ◌||◌, Option, Some, None, if◌then◌else◌}
use Rattle.go_term_core.specs.declared.term.Basic.{Basic}
use Rattle.go_term_core.specs.declared.term.Basic.TheVariants as basics
use Rattle.go_operand_core.specs.declared.types.ValueType.{ValueType}
use Rattle.go_operand_core.specs.declared.types.ValueType.TheVariants as types
use Rattle.go_operand_core.specs.declared.types.Operand.{Operand}
use Rattle.go_operand_core.specs.declared.types.TypeForm.{TypeForm}
use Rattle.go_operand_core.specs.declared.types.TypeForm.TheVariants as forms
use Rattle.go_operand_core.specs.TypeRules.{TypeRules}
use Rattle.go_operand_core.specs.Values.{is_basic, untyped, basic_type}

-- nil is assignable to pointers and interfaces
abbrev pub takes_nil : {T : Type 0} → TypeForm T → Bool
takes_nil forms.Nothing = false
takes_nil (forms.Basic b) = false
takes_nil (forms.Pointer t) = true
takes_nil forms.Struct = false
takes_nil forms.Interface = true

-- an untyped value is assignable to what is over its kind, and to interfaces that its default type implements
abbrev pub takes_untyped : {T : Type 0} → Basic → Bool → TypeForm T → Bool
takes_untyped b implements forms.Nothing = false
takes_untyped b implements (forms.Basic c) = is_basic b c
takes_untyped b implements (forms.Pointer t) = false
takes_untyped b implements forms.Struct = false
takes_untyped b implements forms.Interface = implements

abbrev pub untyped_assignable : {T : Type 0} → TypeRules T → Basic → T → Bool
untyped_assignable rules b t = takes_untyped b (rules.assignable (basic_type rules b) t) (rules.form t)

-- a value is assignable to a variable of the type
abbrev pub assignable : {T : Type 0} → TypeRules T → ValueType T → T → Bool
assignable rules (types.Typed s) t = rules.assignable s t
assignable rules types.UntypedInt t = untyped_assignable rules basics.Int t
assignable rules types.UntypedText t = untyped_assignable rules basics.Text t
assignable rules types.UntypedBool t = untyped_assignable rules basics.Bool t
assignable rules types.Nil t = takes_nil (rules.form t)

abbrev pub assignable_to : {T : Type 0} → TypeRules T → Operand T → T → Bool
assignable_to rules o t = assignable rules o.value_type t

-- the type of an operand beside a value of the type, which an untyped one takes
abbrev pub taken : {T : Type 0} → TypeRules T → ValueType T → T → Option (ValueType T)
taken rules v t = if assignable rules v t then Some (types.Typed t) else None

abbrev pub common_typed : {T : Type 0} → TypeRules T → T → ValueType T → Option (ValueType T)
common_typed rules s (types.Typed t) = if rules.identical s t then Some (types.Typed s) else None
common_typed rules s types.UntypedInt = taken rules types.UntypedInt s
common_typed rules s types.UntypedText = taken rules types.UntypedText s
common_typed rules s types.UntypedBool = taken rules types.UntypedBool s
common_typed rules s types.Nil = taken rules types.Nil s

abbrev pub common_kind : {T : Type 0} → Basic → Basic → Option (ValueType T)
common_kind b c = if is_basic b c then Some (untyped b) else None

abbrev pub common_untyped : {T : Type 0} → TypeRules T → Basic → ValueType T → Option (ValueType T)
common_untyped rules b (types.Typed t) = taken rules (untyped b) t
common_untyped rules b types.UntypedInt = common_kind b basics.Int
common_untyped rules b types.UntypedText = common_kind b basics.Text
common_untyped rules b types.UntypedBool = common_kind b basics.Bool
common_untyped rules b types.Nil = None

abbrev pub common_nil : {T : Type 0} → TypeRules T → ValueType T → Option (ValueType T)
common_nil rules (types.Typed t) = taken rules types.Nil t
common_nil rules types.UntypedInt = None
common_nil rules types.UntypedText = None
common_nil rules types.UntypedBool = None
common_nil rules types.Nil = None

-- what both operands are after an untyped one took the type of the other; none where they stay different
abbrev pub common : {T : Type 0} → TypeRules T → ValueType T → ValueType T → Option (ValueType T)
common rules (types.Typed s) w = common_typed rules s w
common rules types.UntypedInt w = common_untyped rules basics.Int w
common rules types.UntypedText w = common_untyped rules basics.Text w
common rules types.UntypedBool w = common_untyped rules basics.Bool w
common rules types.Nil w = common_nil rules w

abbrev pub comparable_typed : {T : Type 0} → TypeRules T → T → ValueType T → Bool
comparable_typed rules s (types.Typed t) = rules.assignable s t || rules.assignable t s
comparable_typed rules s types.UntypedInt = assignable rules types.UntypedInt s
comparable_typed rules s types.UntypedText = assignable rules types.UntypedText s
comparable_typed rules s types.UntypedBool = assignable rules types.UntypedBool s
comparable_typed rules s types.Nil = assignable rules types.Nil s

abbrev pub comparable_untyped : {T : Type 0} → TypeRules T → Basic → ValueType T → Bool
comparable_untyped rules b (types.Typed t) = untyped_assignable rules b t
comparable_untyped rules b types.UntypedInt = is_basic b basics.Int
comparable_untyped rules b types.UntypedText = is_basic b basics.Text
comparable_untyped rules b types.UntypedBool = is_basic b basics.Bool
comparable_untyped rules b types.Nil = false

abbrev pub comparable_nil : {T : Type 0} → TypeRules T → ValueType T → Bool
comparable_nil rules (types.Typed t) = assignable rules types.Nil t
comparable_nil rules types.UntypedInt = false
comparable_nil rules types.UntypedText = false
comparable_nil rules types.UntypedBool = false
comparable_nil rules types.Nil = false

-- one of two values is assignable to the type of the other, or both are untyped of one kind
abbrev pub comparable : {T : Type 0} → TypeRules T → ValueType T → ValueType T → Bool
comparable rules (types.Typed s) w = comparable_typed rules s w
comparable rules types.UntypedInt w = comparable_untyped rules basics.Int w
comparable rules types.UntypedText w = comparable_untyped rules basics.Text w
comparable rules types.UntypedBool w = comparable_untyped rules basics.Bool w
comparable rules types.Nil w = comparable_nil rules w
