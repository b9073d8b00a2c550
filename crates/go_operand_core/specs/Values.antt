-- What lies under the type of a value.
use Rattle.std.specs.Prelude.{Bool, true, false, Option, Some, None}
use Rattle.go_term_core.specs.declared.term.Basic.{Basic}
use Rattle.go_term_core.specs.declared.term.Basic.TheVariants as basics
use Rattle.go_operand_core.specs.declared.types.ValueType.{ValueType}
use Rattle.go_operand_core.specs.declared.types.ValueType.TheVariants as types
use Rattle.go_operand_core.specs.declared.types.TypeForm.{TypeForm}
use Rattle.go_operand_core.specs.declared.types.TypeForm.TheVariants as forms
use Rattle.go_operand_core.specs.TypeRules.{TypeRules}

abbrev pub is_basic : Basic → Basic → Bool
is_basic basics.Bool basics.Bool = true
is_basic basics.Bool basics.Int = false
is_basic basics.Bool basics.Text = false
is_basic basics.Int basics.Bool = false
is_basic basics.Int basics.Int = true
is_basic basics.Int basics.Text = false
is_basic basics.Text basics.Bool = false
is_basic basics.Text basics.Int = false
is_basic basics.Text basics.Text = true

abbrev pub is_over : Basic → Option Basic → Bool
is_over b None = false
is_over b (Some c) = is_basic b c

abbrev pub form_basic : {T : Type 0} → TypeForm T → Option Basic
form_basic forms.Nothing = None
form_basic (forms.Basic b) = Some b
form_basic (forms.Pointer t) = None
form_basic forms.Struct = None
form_basic forms.Interface = None

-- which of bool, int and string lies under the type of a value, or is the kind of an untyped one
abbrev pub basic_under : {T : Type 0} → TypeRules T → ValueType T → Option Basic
basic_under rules (types.Typed t) = form_basic (rules.form t)
basic_under rules types.UntypedInt = Some basics.Int
basic_under rules types.UntypedText = Some basics.Text
basic_under rules types.UntypedBool = Some basics.Bool
basic_under rules types.Nil = None

-- the untyped values of a kind
abbrev pub untyped : {T : Type 0} → Basic → ValueType T
untyped basics.Bool = types.UntypedBool
untyped basics.Int = types.UntypedInt
untyped basics.Text = types.UntypedText

abbrev pub basic_type : {T : Type 0} → TypeRules T → Basic → T
basic_type rules basics.Bool = rules.bool
basic_type rules basics.Int = rules.int
basic_type rules basics.Text = rules.string

-- the type that a value has where none is asked for: of an untyped constant or boolean its default type; nil has none
abbrev pub default_type : {T : Type 0} → TypeRules T → ValueType T → Option T
default_type rules (types.Typed t) = Some t
default_type rules types.UntypedInt = Some rules.int
default_type rules types.UntypedText = Some rules.string
default_type rules types.UntypedBool = Some rules.bool
default_type rules types.Nil = None
