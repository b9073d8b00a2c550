-- Composite literals worked out by hand: of a type T whose struct type has an exported field A and a non-exported one b, in another
-- package than that of T.
--
-- docs/RULES.md, "Composite literals".
use Rattle.std.specs.Prelude.{◌≡◌, Bool, true, false, List, [], ◌∷◌, Option, Some, None, codes}
use Rattle.go_text_core.specs.declared.rule.Rule.{Rule}
use Rattle.go_text_core.specs.declared.rule.Rule.TheVariants.{F1, F2, F3, F4, F5, F6, F7}
use Rattle.go_operand_core.specs.declared.types.TypeForm.TheVariants as forms
use Rattle.go_operand_core.specs.TypeRules.{TypeRules}
use Rattle.go_denote_core.specs.declared.things.Outcome.TheVariants as outcomes
use Rattle.go_denote_core.specs.declared.things.Selection.TheVariants as selections
use Rattle.go_denote_core.specs.Look.{NameRules}
use Rattle.go_denote_core.specs.declared.composite.things.Keys.TheVariants as keys
use Rattle.go_denote_core.specs.composite.Look.{FieldOf, LiteralLook, literal_look_of}
use Rattle.go_denote_core.specs.composite.Literals.{literal_rule}
use Rattle.go_denote_core.specs.composite.Keys.{key_answer}
use Rattle.go_denote_core.specs.composite.Repeats.{repeated}

-- A, which is seen, and b, which is not
abbrev pub sample_fields : {T D : Type 0} → D → Option T → D → Option T → List (FieldOf T D)
sample_fields a t b u =
    record { name = codes "A"; known = record { decl = a; field_type = t; is_visible = true } }
    ∷ (record { name = codes "b"; known = record { decl = b; field_type = u; is_visible = false } } ∷ [])

abbrev pub sample_look : {T S D P : Type 0} → TypeRules T → NameRules T S D P → List (FieldOf T D) → LiteralLook T S D P
sample_look types names fields = literal_look_of (record types { form = λ v. forms.Struct }) names (record { fields = λ v. fields })

-- what the literals of T and their keys have, where A is the declaration a of type t
pub record IsWorked (T S D P : Type 0) (look : LiteralLook T S D P) (of : T) (a : D) (t : Option T) : Type 0 where
  -- T{}
  pub no_element : literal_rule look (Some of) keys.None 0 ≡ None
  -- T{1}
  pub one_element : literal_rule look (Some of) keys.None 1 ≡ Some F6
  -- T{1, 2}
  pub two_elements : literal_rule look (Some of) keys.None 2 ≡ Some F7
  -- T{A: 1}
  pub one_key : literal_rule look (Some of) keys.All 1 ≡ None
  pub exported_key : key_answer look (Some of) false false (codes "A") ≡ record { outcome = outcomes.Declared a; target = t }
  -- T{b: 1}
  pub non_exported_key : (key_answer look (Some of) false false (codes "b")).outcome ≡ outcomes.Refused F2
  -- T{A: 1, A: 2}
  pub two_keys : repeated (codes "A" ∷ (codes "A" ∷ [])) ≡ true ∷ (true ∷ [])
  pub repeated_key : (key_answer look (Some of) false true (codes "A")).outcome ≡ outcomes.Refused F4
  -- T{A: 1, 2}
  pub key_and_none : literal_rule look (Some of) keys.Some 2 ≡ Some F5
  pub mixed_key : (key_answer look (Some of) true false (codes "A")).outcome ≡ outcomes.Refused F5
  -- T{_: 1}
  pub blank_key : (key_answer look (Some of) false false (codes "_")).outcome ≡ outcomes.Refused F1
  -- T{c: 1}, where c is a promoted field, and where there is none
  pub promoted_key : (d : D) (path : P) (u : Option T) (by_pointer : Bool) → look.names.select of (codes "c") ≡ selections.«Field» d path u by_pointer
      → (key_answer look (Some of) false false (codes "c")).outcome ≡ outcomes.Refused F3
  pub unknown_key : (rule : Rule) → look.names.select of (codes "c") ≡ selections.Missing rule → (key_answer look (Some of) false false (codes "c")).outcome ≡ outcomes.Refused F1

abbrev pub WorkedLiterals : (T S D P : Type 0) → Type 0
WorkedLiterals T S D P = (types : TypeRules T) (names : NameRules T S D P) (a b : D) (t u : Option T) (of : T)
    → IsWorked T S D P (sample_look types names (sample_fields a t b u)) of a t
