-- What a key has is decided by its own name in its context.
use Rattle.std.proofs.Common.{◌≡◌, ℕ, Bool, List, if◌then◌else◌, refl, sym, ap, ◌∙◌}
use Rattle.std.specs.Prelude.{Option, Some, None}
use Rattle.go_text_core.specs.Text.{is_blank}
use Rattle.go_text_core.specs.declared.rule.Rule.TheVariants.{F1, F2, F3, F4, F5, F8}
use Rattle.go_denote_core.specs.declared.things.Selection.{Selection}
use Rattle.go_denote_core.specs.declared.things.Selection.TheVariants as selections
use Rattle.go_denote_core.specs.declared.composite.things.KeyAnswer.{KeyAnswer}
use Rattle.go_denote_core.specs.declared.composite.things.NamedField.{NamedField}
use Rattle.go_denote_core.specs.declared.composite.things.NamedField.TheVariants as nameds
use Rattle.go_denote_core.specs.composite.Look.{LiteralLook}
use Rattle.go_denote_core.specs.composite.Fields.{named_field}
use Rattle.go_denote_core.specs.composite.Literals.{is_struct}
use Rattle.go_denote_core.specs.composite.Keys.{refused_key, field_key, missing_rule, found_key, key_answer, KeyContext}
use Rattle.go_denote_core.specs.composite.Repeats.{has_name}
use Rattle.go_denote_core.specs.composite.Rules.{is_field_selection}
use Rattle.go_denote_core.specs.composite.Laws.{LiteralSaysAlike, OwnNameDecidesKey, KeysAreLocal}
use Rattle.go_denote_core.proofs.CompositeRepeatLaws.{repeats_is, others_stay}

abbrev context_of : {T : Type 0} → Option T → Bool → List (List ℕ) → KeyContext T
context_of t is_mixed l = record { literal_type = t; is_mixed = is_mixed; others = l }

-- what a key has, by what is asked of its name

abbrev found_by : {T D P : Type 0} → Bool → NamedField T D → Bool → KeyAnswer T D P
found_by is_repeated nameds.Hidden selects = refused_key F2
found_by is_repeated nameds.Missing selects = refused_key (if selects then F3 else F1)
found_by is_repeated (nameds.Visible field) selects = if is_repeated then refused_key F4 else field_key field

abbrev answer_by : {T D P : Type 0} → Bool → Bool → Bool → Bool → NamedField T D → Bool → KeyAnswer T D P
answer_by struct is_mixed blank is_repeated found selects =
    if struct then (if is_mixed then refused_key F5 else (if blank then refused_key F1 else found_by is_repeated found selects)) else refused_key F8

missing_is : {T S D P : Type 0} (selection : Selection T S D P) → missing_rule selection ≡ (if is_field_selection selection then F3 else F1)
missing_is (selections.Missing rule) = refl
missing_is (selections.«Field» d path t by_pointer) = refl
missing_is (selections.Method d path s needs_pointer by_pointer) = refl

found_is : {T S D P : Type 0} (look : LiteralLook T S D P) (t : T) (is_repeated : Bool) (name : List ℕ) (found : NamedField T D)
    → found_key look t is_repeated name found ≡ found_by is_repeated found (is_field_selection (look.names.select t name))
found_is look t is_repeated name nameds.Hidden = refl
found_is look t is_repeated name nameds.Missing = ap refused_key (missing_is (look.names.select t name))
found_is look t is_repeated name (nameds.Visible field) = refl

answer_is : {T S D P : Type 0} (look : LiteralLook T S D P) (t : T) (is_mixed is_repeated : Bool) (name : List ℕ)
    → key_answer look (Some t) is_mixed is_repeated name
    ≡ answer_by (is_struct (look.types.form t)) is_mixed (is_blank name) is_repeated (named_field (look.literals.fields t) name) (is_field_selection (look.names.select t name))
answer_is look t is_mixed is_repeated name =
    ap (λ answer. if is_struct (look.types.form t) then (if is_mixed then refused_key F5 else (if is_blank name then refused_key F1 else answer)) else refused_key F8)
    (found_is look t is_repeated name (named_field (look.literals.fields t) name))

answers_alike : {T S D P : Type 0} (look other : LiteralLook T S D P) (t : Option T) (is_mixed is_repeated is_repeated' : Bool) (name name' : List ℕ)
    → is_blank name ≡ is_blank name' → is_repeated ≡ is_repeated' → LiteralSaysAlike look other t name name'
    → key_answer look t is_mixed is_repeated name ≡ key_answer other t is_mixed is_repeated' name'
answers_alike look other None is_mixed is_repeated is_repeated' name name' blank same says = refl
answers_alike look other (Some t) is_mixed is_repeated is_repeated' name name' blank same says =
    let found = named_field (look.literals.fields t) name in
    let found' = named_field (other.literals.fields t) name' in
    let selects = is_field_selection (look.names.select t name) in
    answer_is look t is_mixed is_repeated name
    ∙ (ap (λ form. answer_by (is_struct form) is_mixed (is_blank name) is_repeated found selects) says.0
    ∙ (ap (λ b. answer_by (is_struct (other.types.form t)) is_mixed b is_repeated found selects) blank
    ∙ (ap (λ b. answer_by (is_struct (other.types.form t)) is_mixed (is_blank name') b found selects) same
    ∙ (ap (λ f. answer_by (is_struct (other.types.form t)) is_mixed (is_blank name') is_repeated' f selects) says.1
    ∙ (ap (λ s. answer_by (is_struct (other.types.form t)) is_mixed (is_blank name') is_repeated' found' s) says.2
    ∙ sym (answer_is other t is_mixed is_repeated' name'))))))

pub own_name : {T S D P : Type 0} → OwnNameDecidesKey T S D P
own_name {T} {S} {D} {P} = record {
  by_rule = λ look t is_mixed names i name there. ap (λ b. (key_answer look t is_mixed b name).outcome) (repeats_is names i name there);
  same_context = λ t is_mixed names i name lt. ap (λ (l : List (List ℕ)). context_of t is_mixed l) (others_stay names i name lt);
  own_name = λ look c name name' blank among says.
      ap (λ answer. answer.outcome) (answers_alike look look c.literal_type c.is_mixed (has_name name c.others) (has_name name' c.others) name name' blank among says);
}

pub keys_local : {T S D P : Type 0} → KeysAreLocal T S D P
keys_local look other t is_mixed is_repeated name says = answers_alike look other t is_mixed is_repeated is_repeated name name refl refl says
