-- The rules of keys and of literals as a whole: of each a table of the rules in their order, with the condition of each in its own
-- words, whatever other rules hold.
--
-- docs/RULES.md, "Composite literals".
use Rattle.std.specs.Prelude.{ℕ, Bool, true, false, ◌&&◌, ◌||◌, not, ◌==◌, List, [], ◌∷◌, take, length, Option, Some, None}
use Rattle.std.specs.List.{list_any}
use Rattle.go_text_core.specs.Text.{is_blank}
use Rattle.go_text_core.specs.declared.rule.Rule.{Rule}
use Rattle.go_text_core.specs.declared.rule.Rule.TheVariants.{F1, F2, F3, F4, F5, F6, F7, F8}
use Rattle.go_denote_core.specs.declared.things.Outcome.{Outcome}
use Rattle.go_denote_core.specs.declared.things.Outcome.TheVariants as outcomes
use Rattle.go_denote_core.specs.declared.things.Selection.{Selection}
use Rattle.go_denote_core.specs.declared.things.Selection.TheVariants as selections
use Rattle.go_denote_core.specs.Rules.{breaks}
use Rattle.go_denote_core.specs.declared.composite.things.Keys.{Keys}
use Rattle.go_denote_core.specs.declared.composite.things.Keys.TheVariants as keys
use Rattle.go_denote_core.specs.declared.composite.things.NamedField.{NamedField}
use Rattle.go_denote_core.specs.declared.composite.things.NamedField.TheVariants as nameds
use Rattle.go_denote_core.specs.composite.Look.{FieldOf, LiteralLook}
use Rattle.go_denote_core.specs.composite.Fields.{named_field}
use Rattle.go_denote_core.specs.composite.Literals.{is_struct, is_visible_field}

-- the literal's type is refused, or no struct type
abbrev pub has_no_struct : {T S D P : Type 0} → LiteralLook T S D P → Option T → Bool
has_no_struct look None = true
has_no_struct look (Some t) = not (is_struct (look.types.form t))

-- the fields of the literal's type
abbrev pub literal_fields : {T S D P : Type 0} → LiteralLook T S D P → Option T → List (FieldOf T D)
literal_fields look None = []
literal_fields look (Some t) = look.literals.fields t

-- keys

abbrev pub is_hidden_field : {T D : Type 0} → NamedField T D → Bool
is_hidden_field nameds.Hidden = true
is_hidden_field nameds.Missing = false
is_hidden_field (nameds.Visible field) = false

abbrev pub is_missing_field : {T D : Type 0} → NamedField T D → Bool
is_missing_field nameds.Missing = true
is_missing_field nameds.Hidden = false
is_missing_field (nameds.Visible field) = false

abbrev pub is_field_selection : {T S D P : Type 0} → Selection T S D P → Bool
is_field_selection (selections.«Field» d path t by_pointer) = true
is_field_selection (selections.Missing rule) = false
is_field_selection (selections.Method d path s needs_pointer by_pointer) = false

-- the selector of the name behind a value of the literal's type denotes a field
abbrev pub selects_field : {T S D P : Type 0} → LiteralLook T S D P → Option T → List ℕ → Bool
selects_field look None name = false
selects_field look (Some t) name = is_field_selection (look.names.select t name)

abbrev pub key_table : {T D : Type 0} → Bool → Bool → Bool → Bool → NamedField T D → Bool → List (Option Rule)
key_table no_struct is_mixed is_repeated blank found selects =
    -- the literal's type is refused, or no struct type
    breaks F8 no_struct
    -- some elements have keys, and some have not
    ∷ breaks F5 is_mixed
    -- the field that is spelled so is not visible here; none is spelled `_`
    ∷ breaks F2 (not blank && is_hidden_field found)
    -- no field of the type is spelled so, but a promoted one
    ∷ breaks F3 (not blank && (is_missing_field found && selects))
    -- it is `_`, or no field of the type is spelled so
    ∷ breaks F1 (blank || is_missing_field found)
    -- another key is spelled the same
    ∷ breaks F4 is_repeated
    ∷ []

abbrev pub key_rules : {T S D P : Type 0} → LiteralLook T S D P → Option T → Bool → Bool → List ℕ → List (Option Rule)
key_rules look t is_mixed is_repeated name =
    key_table (has_no_struct look t) is_mixed is_repeated (is_blank name) (named_field (literal_fields look t) name) (selects_field look t name)

-- the declaration of the field that is named
abbrev pub declaration_of_field : {T D : Type 0} → NamedField T D → Option D
declaration_of_field nameds.Hidden = None
declaration_of_field nameds.Missing = None
declaration_of_field (nameds.Visible field) = Some field.decl

abbrev pub type_of_field : {T D : Type 0} → NamedField T D → Option T
type_of_field nameds.Hidden = None
type_of_field nameds.Missing = None
type_of_field (nameds.Visible field) = field.field_type

-- the type that is wanted: that of the field where the key denotes one, and none where it breaks a rule
abbrev pub field_wanted : {T D P : Type 0} → Outcome D P → NamedField T D → Option T
field_wanted (outcomes.Declared d) found = type_of_field found
field_wanted (outcomes.Selected d path) found = None
field_wanted (outcomes.Refused rule) found = None

-- literals

abbrev pub has_no_key : Keys → Bool
has_no_key keys.None = true
has_no_key keys.All = false
has_no_key keys.Some = false

abbrev pub has_some_keys : Keys → Bool
has_some_keys keys.Some = true
has_some_keys keys.None = false
has_some_keys keys.All = false

abbrev pub literal_rules : {T S D P : Type 0} → LiteralLook T S D P → Option T → Keys → ℕ → List (Option Rule)
literal_rules look t ks count =
    -- the type is refused, or no struct type
    breaks F8 (has_no_struct look t)
    -- some elements have keys, and some have not
    ∷ breaks F5 (has_some_keys ks)
    -- no element has a key, and there are elements, but not as many as fields
    ∷ breaks F6 (has_no_key ks && (not (count == 0) && not (count == length (literal_fields look t))))
    -- no element has a key, and one is for a field that is not visible here
    ∷ breaks F7 (has_no_key ks && list_any (λ f. not (is_visible_field f)) (take count (literal_fields look t)))
    ∷ []
