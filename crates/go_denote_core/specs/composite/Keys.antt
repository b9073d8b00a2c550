-- What a key of a composite literal has.
--
-- docs/RULES.md, "Composite literals". The Go specification, "Composite literals".
use Rattle.std.specs.Prelude.{ℕ, Bool, List, Option, Some, None, if◌then◌else◌}
use Rattle.go_text_core.specs.Text.{is_blank}
use Rattle.go_text_core.specs.declared.rule.Rule.{Rule}
use Rattle.go_text_core.specs.declared.rule.Rule.TheVariants.{F1, F2, F3, F4, F5, F8}
use Rattle.go_denote_core.specs.declared.things.Outcome.{Outcome}
use Rattle.go_denote_core.specs.declared.things.Outcome.TheVariants as outcomes
use Rattle.go_denote_core.specs.declared.things.Selection.{Selection}
use Rattle.go_denote_core.specs.declared.things.Selection.TheVariants as selections
use Rattle.go_denote_core.specs.declared.composite.things.KeyAnswer.{KeyAnswer}
use Rattle.go_denote_core.specs.declared.composite.things.LiteralField.{LiteralField}
use Rattle.go_denote_core.specs.declared.composite.things.NamedField.{NamedField}
use Rattle.go_denote_core.specs.declared.composite.things.NamedField.TheVariants as nameds
use Rattle.go_denote_core.specs.composite.Look.{LiteralLook}
use Rattle.go_denote_core.specs.composite.Fields.{named_field}
use Rattle.go_denote_core.specs.composite.Literals.{is_struct}
use Rattle.go_denote_core.specs.composite.Repeats.{has_name}

-- a rule that is broken; the element is not tested then
abbrev pub refused_key : {T D P : Type 0} → Rule → KeyAnswer T D P
refused_key rule = record { outcome = outcomes.Refused rule; target = None }

-- a field, whose type the element is to be assignable to
abbrev pub field_key : {T D P : Type 0} → LiteralField T D → KeyAnswer T D P
field_key field = record { outcome = outcomes.Declared field.decl; target = field.field_type }

-- the name of no field of the type: of a promoted one, or of none
abbrev pub missing_rule : {T S D P : Type 0} → Selection T S D P → Rule
missing_rule (selections.Missing rule) = F1
missing_rule (selections.«Field» d path t by_pointer) = F3
missing_rule (selections.Method d path s needs_pointer by_pointer) = F1

abbrev pub found_key : {T S D P : Type 0} → LiteralLook T S D P → T → Bool → List ℕ → NamedField T D → KeyAnswer T D P
found_key look t is_repeated name nameds.Hidden = refused_key F2
found_key look t is_repeated name nameds.Missing = refused_key (missing_rule (look.names.select t name))
found_key look t is_repeated name (nameds.Visible field) = if is_repeated then refused_key F4 else field_key field

abbrev pub named_key : {T S D P : Type 0} → LiteralLook T S D P → T → Bool → List ℕ → KeyAnswer T D P
named_key look t is_repeated name = found_key look t is_repeated name (named_field (look.literals.fields t) name)

abbrev pub struct_key : {T S D P : Type 0} → LiteralLook T S D P → T → Bool → Bool → List ℕ → KeyAnswer T D P
struct_key look t is_mixed is_repeated name =
    if is_mixed then refused_key F5
    else (if is_blank name then refused_key F1 else named_key look t is_repeated name)

-- what a key has, by the literal's type, whether some elements have keys and some not, and whether another key is spelled the same
abbrev pub key_answer : {T S D P : Type 0} → LiteralLook T S D P → Option T → Bool → Bool → List ℕ → KeyAnswer T D P
key_answer look None is_mixed is_repeated name = refused_key F8
key_answer look (Some t) is_mixed is_repeated name =
    if is_struct (look.types.form t) then struct_key look t is_mixed is_repeated name else refused_key F8

-- what a key has beside the other keys of its literal, which leaves its own spelling open

pub record KeyContext (T : Type 0) : Type 0 where
  -- the literal's type
  pub literal_type : Option T
  -- some elements have keys and some not
  pub is_mixed : Bool
  -- the spellings of the other keys
  pub others : List (List ℕ)

abbrev pub key_rule : {T S D P : Type 0} → LiteralLook T S D P → KeyContext T → List ℕ → Outcome D P
key_rule look context name = (key_answer look context.literal_type context.is_mixed (has_name name context.others) name).outcome
