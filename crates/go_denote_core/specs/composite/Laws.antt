-- What holds of composite literals.
use Rattle.std.specs.Prelude.{◌≡◌, ◌≢◌, ◌↔◌, ◌⊎◌, ⊤, ℕ, ◌+◌, ◌<◌, Bool, true, false, List, ◌∷◌, ◌++◌, take, drop, length, slice_get, Option, Some, None, MatchOption}
use Rattle.std.specs.List.{list_all, list_any, count_by}
use Rattle.go_text_core.specs.Text.{is_blank}
use Rattle.go_text_core.specs.declared.rule.Rule.TheVariants.{F5, F6, F7, F8}
use Rattle.go_operand_core.specs.declared.types.Operand.{Operand}
use Rattle.go_operand_core.specs.declared.types.TypeForm.TheVariants as forms
use Rattle.go_operand_core.specs.declared.types.ValueType.TheVariants as value_types
use Rattle.go_operand_core.specs.Assign.{assignable_to}
use Rattle.go_denote_core.specs.declared.things.Denoted.{Denoted}
use Rattle.go_denote_core.specs.declared.things.Denoted.TheVariants as denotes
use Rattle.go_denote_core.specs.Rules.{first_of, HasFirst, IsDeclared}
use Rattle.go_denote_core.specs.Laws.{GivenAlike}
use Rattle.go_denote_core.specs.declared.composite.things.Keys.{Keys}
use Rattle.go_denote_core.specs.declared.composite.things.Keys.TheVariants as keys
use Rattle.go_denote_core.specs.declared.composite.things.Mode.{Mode}
use Rattle.go_denote_core.specs.declared.composite.things.LiteralField.{LiteralField}
use Rattle.go_denote_core.specs.declared.composite.things.NamedField.TheVariants as nameds
use Rattle.go_denote_core.specs.composite.Look.{FieldOf, LiteralLook}
use Rattle.go_denote_core.specs.composite.Fields.{named_field}
use Rattle.go_denote_core.specs.composite.Literals.{keys_among, is_visible_field, literal_type, literal_denotes, literal_rule, literal_mode, element_target, misfits}
use Rattle.go_denote_core.specs.composite.Keys.{key_answer, KeyContext, key_rule}
use Rattle.go_denote_core.specs.composite.Repeats.{has_name, repeats, repeated, others}
use Rattle.go_denote_core.specs.composite.Marks.{type_fields, made_mark, marked_answer}
use Rattle.go_denote_core.specs.composite.Rules.{is_field_selection, literal_fields, key_rules, declaration_of_field, field_wanted, literal_rules}

-- keys

pub record FirstRuleOfKey (T S D P : Type 0) : Type 0 where
  -- a key has the first rule that it breaks, and the declaration of the field of its name where it breaks none
  pub outcome : (look : LiteralLook T S D P) (t : Option T) (is_mixed is_repeated : Bool) (name : List ℕ)
      → HasFirst (key_rules look t is_mixed is_repeated name) (IsDeclared (declaration_of_field (named_field (literal_fields look t) name))) (key_answer look t is_mixed is_repeated name).outcome
  -- its element is wanted to be of the type of that field, and is not tested where the key breaks a rule
  pub target : (look : LiteralLook T S D P) (t : Option T) (is_mixed is_repeated : Bool) (name : List ℕ)
      → (key_answer look t is_mixed is_repeated name).target ≡ field_wanted (key_answer look t is_mixed is_repeated name).outcome (named_field (literal_fields look t) name)

-- a field of the list is spelled so
pub record IsFieldSpelled (T D : Type 0) (fields : List (FieldOf T D)) (name : List ℕ) (known : LiteralField T D) : Type 0 where
  pub at : ℕ
  pub there : slice_get fields at ≡ Some (record { name = name; known = known })

-- one name stands for one field
abbrev pub AreOneEach : (T D : Type 0) → List (FieldOf T D) → List ℕ → Type 0
AreOneEach T D fields name = (known other : LiteralField T D) → IsFieldSpelled T D fields name known → IsFieldSpelled T D fields name other → known ≡ other

-- which field is found, where the fields of one name are one
pub record NamedFields (T D : Type 0) : Type 0 where
  pub visible : (fields : List (FieldOf T D)) (name : List ℕ) → AreOneEach T D fields name → (known : LiteralField T D)
      → (named_field fields name ≡ nameds.Visible known) ↔ (IsFieldSpelled T D fields name known × (known.is_visible ≡ true))
  pub hidden : (fields : List (FieldOf T D)) (name : List ℕ) → AreOneEach T D fields name
      → (named_field fields name ≡ nameds.Hidden) ↔ ((known : LiteralField T D) × IsFieldSpelled T D fields name known × (known.is_visible ≡ false))
  pub missing : (fields : List (FieldOf T D)) (name : List ℕ)
      → (named_field fields name ≡ nameds.Missing) ↔ ((known : LiteralField T D) → IsFieldSpelled T D fields name known → ⊥)

-- a key has by its mark what it has by its name
abbrev pub MarksTellKeys : (T S D P : Type 0) → Type 0
MarksTellKeys T S D P =
    (look : LiteralLook T S D P) (t : Option T) (is_mixed is_repeated : Bool) (name : List ℕ)
    → marked_answer look t is_mixed (made_mark (type_fields look.literals t) is_repeated name) name ≡ key_answer look t is_mixed is_repeated name

-- What a key has is its context's rule at its own name. The context is made of the other keys alone, and so is the same whatever the
-- key's own name; and the rule looks at the name only for whether it is `_` or among the other keys, and for what the literal's type
-- says of it.

-- the literal's type says the same of two names: the field that is spelled so, and whether the selector denotes a field
abbrev pub LiteralSaysAlike : {T S D P : Type 0} → LiteralLook T S D P → LiteralLook T S D P → Option T → List ℕ → List ℕ → Type 0
LiteralSaysAlike look other t name name' =
    MatchOption t ⊤ (λ u. (look.types.form u ≡ other.types.form u)
    × (named_field (look.literals.fields u) name ≡ named_field (other.literals.fields u) name')
    × (is_field_selection (look.names.select u name) ≡ is_field_selection (other.names.select u name')))

-- the names with another one at a place
abbrev pub with_name_at : List (List ℕ) → ℕ → List ℕ → List (List ℕ)
with_name_at names i name = take i names ++ name ∷ drop (i + 1) names

abbrev pub context : {T : Type 0} → Option T → Bool → List (List ℕ) → ℕ → KeyContext T
context t is_mixed names i = record { literal_type = t; is_mixed = is_mixed; others = others names i }

pub record OwnNameDecidesKey (T S D P : Type 0) : Type 0 where
  pub by_rule : (look : LiteralLook T S D P) (t : Option T) (is_mixed : Bool) (names : List (List ℕ)) (i : ℕ) (name : List ℕ) → slice_get names i ≡ Some name
      → (key_answer look t is_mixed (repeats name names) name).outcome ≡ key_rule look (context t is_mixed names i) name
  pub same_context : (t : Option T) (is_mixed : Bool) (names : List (List ℕ)) (i : ℕ) (name : List ℕ) → i < length names
      → context t is_mixed (with_name_at names i name) i ≡ context t is_mixed names i
  pub own_name : (look : LiteralLook T S D P) (c : KeyContext T) (name name' : List ℕ)
      → is_blank name ≡ is_blank name' → has_name name c.others ≡ has_name name' c.others → LiteralSaysAlike look look c.literal_type name name' → key_rule look c name ≡ key_rule look c name'

abbrev pub KeysAreLocal : (T S D P : Type 0) → Type 0
KeysAreLocal T S D P = (look other : LiteralLook T S D P) (t : Option T) (is_mixed is_repeated : Bool) (name : List ℕ)
    → LiteralSaysAlike look other t name name → key_answer look t is_mixed is_repeated name ≡ key_answer other t is_mixed is_repeated name

-- repeated names

pub record RepeatedNames : Type 0 where
  -- there is one flag for each name
  pub many : (names : List (List ℕ)) → length (repeated names) ≡ length names
  -- it says whether the name stands at another place too
  pub by_place : (names : List (List ℕ)) (i : ℕ) (name : List ℕ) → slice_get names i ≡ Some name
      → (slice_get (repeated names) i ≡ Some true) ↔ ((j : ℕ) × (j ≢ i) × (slice_get names j ≡ Some name))
  -- that is whether it stands among the others
  pub by_others : (names : List (List ℕ)) (i : ℕ) (name : List ℕ) → slice_get names i ≡ Some name → slice_get (repeated names) i ≡ Some (has_name name (others names i))

-- literals

-- which elements have keys, by flags that say it of each
pub record KeysOfElements : Type 0 where
  pub none : (flags : List Bool) → (keys_among (length flags) (count_by (λ b. b) flags) ≡ keys.None) ↔ (list_any (λ b. b) flags ≡ false)
  pub all : (flags : List Bool) → (keys_among (length flags) (count_by (λ b. b) flags) ≡ keys.All) ↔ ((list_any (λ b. b) flags ≡ true) × (list_all (λ b. b) flags ≡ true))
  pub some : (flags : List Bool) → (keys_among (length flags) (count_by (λ b. b) flags) ≡ keys.Some) ↔ ((list_any (λ b. b) flags ≡ true) × (list_all (λ b. b) flags ≡ false))

-- a literal breaks the first rule of the table
abbrev pub FirstRuleOfLiteral : (T S D P : Type 0) → Type 0
FirstRuleOfLiteral T S D P = (look : LiteralLook T S D P) (t : Option T) (ks : Keys) (count : ℕ) → literal_rule look t ks count ≡ first_of (literal_rules look t ks count)

-- the literal's type is a struct type with these fields
pub record HasFields (T S D P : Type 0) (look : LiteralLook T S D P) (t : Option T) (fields : List (FieldOf T D)) : Type 0 where
  pub of : T
  pub is : t ≡ Some of
  pub form : look.types.form of ≡ forms.Struct
  pub has : look.literals.fields of ≡ fields

-- The rules of literals, each both ways: the type is no struct type; some elements have keys and some not; there are elements without
-- keys, and not as many as fields; there are as many, and a field is not visible here; and where none of these holds, there is no rule.
pub record RulesOfLiterals (T S D P : Type 0) : Type 0 where
  pub no_struct : (look : LiteralLook T S D P) (t : Option T) (ks : Keys) (count : ℕ)
      → (literal_rule look t ks count ≡ Some F8) ↔ ((fields : List (FieldOf T D)) → HasFields T S D P look t fields → ⊥)
  pub mixed : (look : LiteralLook T S D P) (t : Option T) (ks : Keys) (count : ℕ)
      → (literal_rule look t ks count ≡ Some F5) ↔ ((fields : List (FieldOf T D)) × HasFields T S D P look t fields × (ks ≡ keys.Some))
  pub miscounted : (look : LiteralLook T S D P) (t : Option T) (ks : Keys) (count : ℕ)
      → (literal_rule look t ks count ≡ Some F6)
      ↔ ((fields : List (FieldOf T D)) × HasFields T S D P look t fields × (ks ≡ keys.None) × (count ≢ 0) × (count ≢ length fields))
  pub hidden : (look : LiteralLook T S D P) (t : Option T) (ks : Keys) (count : ℕ)
      → (literal_rule look t ks count ≡ Some F7)
      ↔ ((fields : List (FieldOf T D)) × HasFields T S D P look t fields × (ks ≡ keys.None) × (count ≡ length fields)
      × (at : ℕ) × (f : FieldOf T D) × (slice_get fields at ≡ Some f) × (is_visible_field f ≡ false))
  pub fine : (look : LiteralLook T S D P) (t : Option T) (ks : Keys) (count : ℕ)
      → (literal_rule look t ks count ≡ None)
      ↔ ((fields : List (FieldOf T D)) × HasFields T S D P look t fields
      × ((ks ≡ keys.All) ⊎ ((ks ≡ keys.None) × ((count ≡ 0) ⊎ ((count ≡ length fields) × ((at : ℕ) (f : FieldOf T D) → slice_get fields at ≡ Some f → is_visible_field f ≡ true))))))

-- what elements are wanted to be assignable to
pub record TargetsOfElements (T S D P : Type 0) : Type 0 where
  -- where each has a key, what its key gives
  pub by_key : (look : LiteralLook T S D P) (t : Option T) (fields : List (FieldOf T D)) (count at : ℕ) (given : Option T) → HasFields T S D P look t fields
      → element_target look t (literal_mode look t keys.All count) at given ≡ given
  -- where none has and there are as many as fields, the type of the field of its number
  pub in_order : (look : LiteralLook T S D P) (t : Option T) (fields : List (FieldOf T D)) (at : ℕ) (f : FieldOf T D) (given : Option T) → HasFields T S D P look t fields
      → slice_get fields at ≡ Some f → element_target look t (literal_mode look t keys.None (length fields)) at given ≡ f.known.field_type
  -- and nothing where the literal breaks F8, F5 or F6
  pub untested : (look : LiteralLook T S D P) (t : Option T) (ks : Keys) (count at : ℕ) (given : Option T)
      → (literal_rule look t ks count ≡ Some F8) ⊎ ((literal_rule look t ks count ≡ Some F5) ⊎ (literal_rule look t ks count ≡ Some F6))
      → element_target look t (literal_mode look t ks count) at given ≡ None

-- a literal has the type that the name of its type denotes, whatever else; and it is refused where that is none
pub record TypesOfLiterals (T S D : Type 0) : Type 0 where
  pub named : (denoted : Denoted T S D) (t : T) → (literal_type denoted ≡ Some t) ↔ ((d : D) × (denoted ≡ denotes.«Type» d (Some t)))
  pub value : (t : T) → literal_denotes {S = S} {D = D} (Some t) ≡ denotes.«Value» (record { value_type = value_types.Typed t; constant = None; addressable = false })
  pub refused : literal_denotes {T = T} {S = S} {D = D} None ≡ denotes.Refused

-- an element breaks Y4 where it is a single value that is not assignable to the type that is wanted, and only there
abbrev pub ElementsFit : (T S D P : Type 0) → Type 0
ElementsFit T S D P = (look : LiteralLook T S D P) (target : Option T) (denoted : Denoted T S D)
    → (misfits look target denoted ≡ true)
    ↔ ((t : T) × (operand : Operand T) × (target ≡ Some t) × (denoted ≡ denotes.«Value» operand) × (assignable_to look.types operand t ≡ false))

-- answers are the same under look-ups that agree on what is asked

abbrev pub LiteralsAlike : {T S D P : Type 0} → LiteralLook T S D P → LiteralLook T S D P → Option T → Type 0
LiteralsAlike look other t = MatchOption t ⊤ (λ u. (look.types.form u ≡ other.types.form u) × (look.literals.fields u ≡ other.literals.fields u))

abbrev pub ElementFitsAlike : {T S D P : Type 0} → LiteralLook T S D P → LiteralLook T S D P → Option T → Denoted T S D → Type 0
ElementFitsAlike look other (Some t) (denotes.«Value» operand) = GivenAlike look.types other.types operand.value_type t
ElementFitsAlike look other _ _ = ⊤

pub record LiteralsAreLocal (T S D P : Type 0) : Type 0 where
  pub rule : (look other : LiteralLook T S D P) (t : Option T) (ks : Keys) (count : ℕ) → LiteralsAlike look other t → literal_rule look t ks count ≡ literal_rule other t ks count
  pub mode : (look other : LiteralLook T S D P) (t : Option T) (ks : Keys) (count : ℕ) → LiteralsAlike look other t → literal_mode look t ks count ≡ literal_mode other t ks count
  pub target : (look other : LiteralLook T S D P) (t : Option T) (mode : Mode) (at : ℕ) (by_key : Option T) → LiteralsAlike look other t
      → element_target look t mode at by_key ≡ element_target other t mode at by_key
  pub fit : (look other : LiteralLook T S D P) (target : Option T) (denoted : Denoted T S D) → ElementFitsAlike look other target denoted → misfits look target denoted ≡ misfits other target denoted
