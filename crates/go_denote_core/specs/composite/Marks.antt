-- What is known of a key among the keys of its literal and the fields of the literal's type, and what the key has by that.
--
-- docs/RULES.md, "Composite literals". The Go specification, "Composite literals".
use Rattle.std.specs.Prelude.{ℕ, ◌+◌, Bool, List, [], ◌∷◌, map, slice_get, Option, Some, None, if◌then◌else◌}
use Rattle.std.specs.Str.{bytes_eq}
use Rattle.go_text_core.specs.Text.{is_blank}
use Rattle.go_text_core.specs.declared.rule.Rule.TheVariants.{F1, F5, F8}
use Rattle.go_denote_core.specs.declared.composite.things.KeyAnswer.{KeyAnswer}
use Rattle.go_denote_core.specs.declared.composite.things.KeyMark.{KeyMark}
use Rattle.go_denote_core.specs.declared.composite.things.NamedField.{NamedField}
use Rattle.go_denote_core.specs.declared.composite.things.NamedField.TheVariants as nameds
use Rattle.go_denote_core.specs.composite.Look.{FieldOf, LiteralRules, LiteralLook}
use Rattle.go_denote_core.specs.composite.Fields.{shown_field}
use Rattle.go_denote_core.specs.composite.Keys.{refused_key, found_key}
use Rattle.go_denote_core.specs.composite.Literals.{is_struct}
use Rattle.go_denote_core.specs.composite.Repeats.{repeats}

-- the number of the first name that is spelled so, behind so many others
abbrev pub name_number_from : ℕ → List (List ℕ) → List ℕ → Option ℕ
name_number_from k [] name = None
name_number_from k (n ∷ ns) name = if bytes_eq n name then Some k else name_number_from (k + 1) ns name

-- the number of the first field that is spelled so
abbrev pub field_number : {T D : Type 0} → List (FieldOf T D) → List ℕ → Option ℕ
field_number fields name = name_number_from 0 (map (λ f. f.name) fields) name

-- the fields of the type of a literal: none without a type
abbrev pub type_fields : {T D : Type 0} → LiteralRules T D → Option T → List (FieldOf T D)
type_fields rules None = []
type_fields rules (Some t) = rules.fields t

-- the mark of a key, by whether another is spelled the same
abbrev pub made_mark : {T D : Type 0} → List (FieldOf T D) → Bool → List ℕ → KeyMark
made_mark fields is_repeated name = record { is_repeated = is_repeated; field = field_number fields name }

-- the marks of all keys of a literal
abbrev pub key_marks : {T D : Type 0} → List (FieldOf T D) → List (List ℕ) → List KeyMark
key_marks fields names = map (λ name. made_mark fields (repeats name names) name) names

-- the field of a number
abbrev pub field_if : {T D : Type 0} → Option (FieldOf T D) → NamedField T D
field_if None = nameds.Missing
field_if (Some f) = shown_field f.known.is_visible f.known

abbrev pub numbered_field : {T D : Type 0} → List (FieldOf T D) → Option ℕ → NamedField T D
numbered_field fields None = nameds.Missing
numbered_field fields (Some at) = field_if (slice_get fields at)

-- what a key has, by its mark

abbrev pub marked_key : {T S D P : Type 0} → LiteralLook T S D P → T → KeyMark → List ℕ → KeyAnswer T D P
marked_key look t mark name = found_key look t mark.is_repeated name (numbered_field (look.literals.fields t) mark.field)

abbrev pub marked_struct_key : {T S D P : Type 0} → LiteralLook T S D P → T → Bool → KeyMark → List ℕ → KeyAnswer T D P
marked_struct_key look t is_mixed mark name =
    if is_mixed then refused_key F5
    else (if is_blank name then refused_key F1 else marked_key look t mark name)

abbrev pub marked_answer : {T S D P : Type 0} → LiteralLook T S D P → Option T → Bool → KeyMark → List ℕ → KeyAnswer T D P
marked_answer look None is_mixed mark name = refused_key F8
marked_answer look (Some t) is_mixed mark name =
    if is_struct (look.types.form t) then marked_struct_key look t is_mixed mark name else refused_key F8
