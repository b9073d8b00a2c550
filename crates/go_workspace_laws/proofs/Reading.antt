-- What words, types, signatures, constants and variables come to in code is what they are.
use Rattle.std.proofs.Common.{◌≡◌, ℕ, List, [], ◌∷◌, Option, Some, None, refl, sym, subst}
use Rattle.go_object_core.specs.declared.instructions.letters.Word.{Word}
use Rattle.go_object_core.specs.declared.instructions.letters.Word.TheVariants as words
use Rattle.go_code_core.specs.declared.fragments.names.Meaning.{Meaning}
use Rattle.go_code_core.specs.declared.fragments.names.Meaning.TheVariants as meanings
use Rattle.go_constant_core.specs.declared.values.Constant.{Constant}
use Rattle.go_constant_core.specs.declared.values.Constant.TheVariants as values
use Rattle.go_term_core.specs.declared.term.Basic.TheVariants as basics
use Rattle.go_term_core.specs.Terms.{Term, Sign}
use Rattle.go_report_core.specs.operand_core.declared.types.Operand.{Operand}
use Rattle.go_report_core.specs.operand_core.declared.types.TypeForm.{TypeForm}
use Rattle.go_report_core.specs.operand_core.declared.types.TypeForm.TheVariants as forms
use Rattle.go_report_core.specs.operand_core.Values.{form_basic}
use Rattle.go_body_core.specs.table_core.Entries.{Entry, find_entry}
use Rattle.go_report_core.specs.denote_core.declared.things.Outcome.{Outcome}
use Rattle.go_report_core.specs.denote_core.declared.things.Outcome.TheVariants as outcomes
use Rattle.govisd_resolve.specs.handle_core.DecidingRules.{form_of, results_of, term_rules}
use Rattle.govisd_resolve.specs.handle_core.Declarations.{Declaration}
use Rattle.go_emit_core.specs.declared_core.declared.face.Face.TheVariants as faces
use Rattle.go_emit_core.specs.declared_core.Faces.{TheFace}
use Rattle.go_body_core.specs.env_core.Found.{exported_face, found_face}
use Rattle.go_body_core.specs.env_core.Looks.{TheLooks}
use Rattle.go_code_core.specs.fragments.Fragment.{over}
use Rattle.go_emit_core.specs.meaning.Words.{form_word, results_give, sign_gives, some_word, value_word}
use Rattle.go_emit_core.specs.meaning.Meanings.{constant_meaning, constant_meaning_or, local_meaning, some_face_meaning, type_meaning, value_meaning, variable_meaning}
use Rattle.go_workspace_laws.specs.folding.Reading.{IsExportedMeant, IsFoundMeant, IsFunctionMeant, ResultsGive, IsOperandMeant, IsOver, IsTypeMeant, IsValueMeant, IsVariableMeant, basic_of, meant_constant}

-- constants and variables

constant_read : (c : Constant) → constant_meaning c ≡ meant_constant c
constant_read (values.Int z) = refl
constant_read (values.Bool b) = refl
constant_read (values.Text t) = refl
constant_read values.Unknown = refl

operand_read : (k : Option Constant) (m : Meaning) → IsVariableMeant m → IsOperandMeant k (constant_meaning_or k m)
operand_read None m h = h
operand_read (Some c) m h = constant_read c

variable_read : (at : ℕ) (w : Option Word) → IsVariableMeant (variable_meaning at w)
variable_read at None = tt
variable_read at (Some w) = tt

value_read : (o : Option (Operand Term)) → IsValueMeant o (value_meaning o)
value_read None = refl
value_read (Some o) = operand_read o.constant meanings.Other tt

pub local_read : (es : List Entry) (at : ℕ) (o : Option (Operand Term)) → IsValueMeant o (local_meaning es at o)
local_read es at None = refl
local_read es at (Some o) = operand_read o.constant (variable_meaning at (value_word es o.value_type)) (variable_read at (value_word es o.value_type))

-- types

word_fits : (f : TypeForm Term) (w : Word) → form_word f ≡ Some w → form_basic f ≡ Some (basic_of w)
word_fits (forms.Basic basics.Int) words.Int e = refl
word_fits (forms.Basic basics.Int) words.Bool e = absurd cc
word_fits (forms.Basic basics.Bool) words.Int e = absurd cc
word_fits (forms.Basic basics.Bool) words.Bool e = refl
word_fits (forms.Basic basics.Text) w e = absurd cc
word_fits forms.Nothing w e = absurd cc
word_fits (forms.Pointer t) w e = absurd cc
word_fits forms.Struct w e = absurd cc
word_fits forms.Interface w e = absurd cc

module _ (es : List Entry) (path : List ℕ) where
  over_read : (t : Option Term) (w : Word) → some_word es t ≡ Some w → IsOver (term_rules es path) w t
  over_read None w e = absurd cc
  over_read (Some t) w e = word_fits (form_of (find_entry es) t) w e

  type_by : (t : Option Term) (o : Option Word) → some_word es t ≡ o → IsTypeMeant (term_rules es path) t (type_meaning o)
  type_by t None e = tt
  type_by t (Some w) e = over_read t w e

  type_read : (t : Option Term) → IsTypeMeant (term_rules es path) t (type_meaning (some_word es t))
  type_read t = type_by t (some_word es t) refl

  -- signatures

  one_by : (t : Option Term) (o : Option Word) → some_word es t ≡ o → ResultsGive (term_rules es path) (t ∷ []) (over o)
  one_by t None e = tt
  one_by t (Some w) e = over_read t w e

  results_read : (ts : List (Option Term)) → ResultsGive (term_rules es path) ts (results_give es ts)
  results_read [] = tt
  results_read (t ∷ []) = one_by t (some_word es t) refl
  results_read (t ∷ (u ∷ ts)) = tt

  pub sign_read : (g : Sign) → ResultsGive (term_rules es path) (results_of (find_entry es) g) (sign_gives es g)
  sign_read g = results_read (results_of (find_entry es) g)

  -- what a declaration is, in look-ups over these types

  module _ (looks : TheLooks) (types : looks.types ≡ term_rules es path) (results : looks.results ≡ results_of (find_entry es)) (mean : Outcome Declaration (List ℕ) → Meaning) where
    typed : (t : Option Term) → IsTypeMeant looks.types t (type_meaning (some_word es t))
    typed t = subst (λ r. IsTypeMeant r t (type_meaning (some_word es t))) (sym types) (type_read t)

    called : (g : Sign) → IsFunctionMeant looks.types (looks.results g) (meanings.Function (sign_gives es g))
    called g = subst (λ r. IsFunctionMeant r (looks.results g) (meanings.Function (sign_gives es g))) (sym types)
        (subst (λ (f : Sign → List (Option Term)). IsFunctionMeant (term_rules es path) (f g) (meanings.Function (sign_gives es g))) (sym results) (sign_read g))

    pub face_read : (d : Declaration) (o : Option TheFace) → mean (outcomes.Declared d) ≡ some_face_meaning es o → IsFoundMeant looks mean (found_face d o)
    face_read d None e = e
    face_read d (Some (faces.«Type» t)) e = subst (IsTypeMeant looks.types t) (sym e) (typed t)
    face_read d (Some (faces.Func g)) e = subst (IsFunctionMeant looks.types (looks.results g)) (sym e) (called g)
    face_read d (Some (faces.«Value» o)) e = subst (IsValueMeant o) (sym e) (value_read o)

    pub shown_read : (d : Declaration) (o : Option TheFace) → mean (outcomes.Declared d) ≡ some_face_meaning es o → IsExportedMeant looks mean (exported_face d o)
    shown_read d None e = e
    shown_read d (Some (faces.«Type» t)) e = subst (IsTypeMeant looks.types t) (sym e) (typed t)
    shown_read d (Some (faces.Func g)) e = subst (IsFunctionMeant looks.types (looks.results g)) (sym e) (called g)
    shown_read d (Some (faces.«Value» o)) e = subst (IsValueMeant o) (sym e) (value_read o)
