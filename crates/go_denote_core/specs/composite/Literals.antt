-- Composite literals as a whole: their types, what they denote, the rules that they break, and what their elements are to be
-- assignable to.
--
-- docs/RULES.md, "Composite literals". The Go specification, "Composite literals".
use Rattle.std.specs.Prelude.{ℕ, Bool, true, false, not, ◌==◌, List, length, slice_get, Option, Some, None, if◌then◌else◌}
use Rattle.std.specs.List.{list_all}
use Rattle.go_text_core.specs.declared.rule.Rule.{Rule}
use Rattle.go_text_core.specs.declared.rule.Rule.TheVariants.{F5, F6, F7, F8}
use Rattle.go_operand_core.specs.declared.types.TypeForm.{TypeForm}
use Rattle.go_operand_core.specs.declared.types.TypeForm.TheVariants as forms
use Rattle.go_operand_core.specs.declared.types.ValueType.TheVariants as value_types
use Rattle.go_operand_core.specs.Assign.{assignable_to}
use Rattle.go_denote_core.specs.declared.things.Denoted.{Denoted}
use Rattle.go_denote_core.specs.declared.things.Denoted.TheVariants as denotes
use Rattle.go_denote_core.specs.declared.composite.things.Keys.{Keys}
use Rattle.go_denote_core.specs.declared.composite.things.Keys.TheVariants as keys
use Rattle.go_denote_core.specs.declared.composite.things.Mode.{Mode}
use Rattle.go_denote_core.specs.declared.composite.things.Mode.TheVariants as modes
use Rattle.go_denote_core.specs.composite.Look.{FieldOf, LiteralLook}

-- the type of a literal, by what the name of its type denotes
abbrev pub literal_type : {T S D : Type 0} → Denoted T S D → Option T
literal_type (denotes.«Type» d t) = t
literal_type denotes.Refused = None
literal_type denotes.Typeless = None
literal_type (denotes.«Package» d) = None
literal_type (denotes.«Value» operand) = None
literal_type (denotes.Several s) = None
literal_type denotes.Nothing = None
literal_type (denotes.Func d s) = None
literal_type (denotes.Builtin d b) = None

-- a literal has its type, and is refused where that is none
abbrev pub literal_denotes : {T S D : Type 0} → Option T → Denoted T S D
literal_denotes None = denotes.Refused
literal_denotes (Some t) = denotes.«Value» (record { value_type = value_types.Typed t; constant = None; addressable = false })

-- which elements have keys, by how many there are and how many have one
abbrev pub keys_among : ℕ → ℕ → Keys
keys_among count keyed = if keyed == 0 then keys.None else (if keyed == count then keys.All else keys.Some)

abbrev pub is_struct : {T : Type 0} → TypeForm T → Bool
is_struct forms.Struct = true
is_struct forms.Nothing = false
is_struct (forms.Basic b) = false
is_struct (forms.Pointer t) = false
is_struct forms.Interface = false

abbrev pub is_visible_field : {T D : Type 0} → FieldOf T D → Bool
is_visible_field f = f.known.is_visible

-- the rule that a literal breaks as a whole

abbrev pub unkeyed_rule : {T D : Type 0} → ℕ → List (FieldOf T D) → Option Rule
unkeyed_rule count fields =
    if count == 0 then None
    else (if count == length fields
    then (if list_all is_visible_field fields then None else Some F7)
    else Some F6)

abbrev pub struct_rule : {T D : Type 0} → Keys → ℕ → List (FieldOf T D) → Option Rule
struct_rule keys.Some count fields = Some F5
struct_rule keys.All count fields = None
struct_rule keys.None count fields = unkeyed_rule count fields

abbrev pub literal_rule : {T S D P : Type 0} → LiteralLook T S D P → Option T → Keys → ℕ → Option Rule
literal_rule look None ks count = Some F8
literal_rule look (Some t) ks count = if is_struct (look.types.form t) then struct_rule ks count (look.literals.fields t) else Some F8

-- how the elements are tested

abbrev pub struct_mode : {T D : Type 0} → Keys → ℕ → List (FieldOf T D) → Mode
struct_mode keys.Some count fields = modes.Untested
struct_mode keys.All count fields = modes.ByKey
struct_mode keys.None count fields = if count == length fields then modes.InOrder else modes.Untested

abbrev pub literal_mode : {T S D P : Type 0} → LiteralLook T S D P → Option T → Keys → ℕ → Mode
literal_mode look None ks count = modes.Untested
literal_mode look (Some t) ks count = if is_struct (look.types.form t) then struct_mode ks count (look.literals.fields t) else modes.Untested

-- the type that an element is to be assignable to

abbrev pub field_type : {T D : Type 0} → Option (FieldOf T D) → Option T
field_type None = None
field_type (Some f) = f.known.field_type

abbrev pub field_type_at : {T D : Type 0} → List (FieldOf T D) → ℕ → Option T
field_type_at fields at = field_type (slice_get fields at)

abbrev pub target_in_order : {T S D P : Type 0} → LiteralLook T S D P → Option T → ℕ → Option T
target_in_order look None at = None
target_in_order look (Some t) at = if is_struct (look.types.form t) then field_type_at (look.literals.fields t) at else None

-- by how the elements are tested, the number of the element, and what its key gives
abbrev pub element_target : {T S D P : Type 0} → LiteralLook T S D P → Option T → Mode → ℕ → Option T → Option T
element_target look t modes.Untested at by_key = None
element_target look t modes.ByKey at by_key = by_key
element_target look t modes.InOrder at by_key = target_in_order look t at

-- a single value that is not assignable to the type that is wanted
abbrev pub value_misfits : {T S D P : Type 0} → LiteralLook T S D P → T → Denoted T S D → Bool
value_misfits look t (denotes.«Value» operand) = not (assignable_to look.types operand t)
value_misfits look t (denotes.«Type» d u) = false
value_misfits look t denotes.Refused = false
value_misfits look t denotes.Typeless = false
value_misfits look t (denotes.«Package» d) = false
value_misfits look t (denotes.Several s) = false
value_misfits look t denotes.Nothing = false
value_misfits look t (denotes.Func d s) = false
value_misfits look t (denotes.Builtin d b) = false

abbrev pub misfits : {T S D P : Type 0} → LiteralLook T S D P → Option T → Denoted T S D → Bool
misfits look None denoted = false
misfits look (Some t) denoted = value_misfits look t denoted
