-- What is over a word to the check is over it in code.
use Rattle.std.proofs.Common.{◌≡◌, ℕ, List, Some, refl}
use Rattle.go_term_core.specs.Terms.{Term}
use Rattle.go_term_core.specs.declared.term.Basic.TheVariants as basics
use Rattle.go_report_core.specs.operand_core.declared.types.TypeForm.{TypeForm}
use Rattle.go_report_core.specs.operand_core.declared.types.TypeForm.TheVariants as forms
use Rattle.go_report_core.specs.operand_core.declared.types.ValueType.{ValueType}
use Rattle.go_report_core.specs.operand_core.declared.types.ValueType.TheVariants as value_types
use Rattle.go_report_core.specs.operand_core.Values.{basic_under, form_basic}
use Rattle.go_body_core.specs.table_core.Entries.{Entry, find_entry}
use Rattle.go_meaning_laws.specs.handle_core.DecidingRules.{form_of, term_rules}
use Rattle.go_object_core.specs.declared.instructions.letters.Word.{Word}
use Rattle.go_object_core.specs.declared.instructions.letters.Word.TheVariants as words
use Rattle.go_emit_core.specs.meaning.Words.{form_word, value_word, word_in}
use Rattle.go_workspace_laws.specs.folding.Reading.{IsOver, basic_of}

form_over : (f : TypeForm Term) (w : Word) → form_basic f ≡ Some (basic_of w) → form_word f ≡ Some w
form_over (forms.Basic basics.Int) words.Int e = refl
form_over (forms.Basic basics.Int) words.Bool e = absurd (cc e)
form_over (forms.Basic basics.Bool) words.Int e = absurd (cc e)
form_over (forms.Basic basics.Bool) words.Bool e = refl
form_over (forms.Basic basics.Text) words.Int e = absurd (cc e)
form_over (forms.Basic basics.Text) words.Bool e = absurd (cc e)
form_over forms.Nothing w e = absurd (cc e)
form_over (forms.Pointer t) w e = absurd (cc e)
form_over forms.Struct w e = absurd (cc e)
form_over forms.Interface w e = absurd (cc e)

module _ (es : List Entry) (path : List ℕ) where
  pub term_over : (t : Term) (w : Word) → IsOver (term_rules es path) w (Some t) → word_in es t ≡ Some w
  term_over t w e = form_over (form_of (find_entry es) t) w e

  pub value_over : (v : ValueType Term) (w : Word) → basic_under (term_rules es path) v ≡ Some (basic_of w) → value_word es v ≡ Some w
  value_over (value_types.Typed t) w e = form_over (form_of (find_entry es) t) w e
  value_over value_types.UntypedInt words.Int e = refl
  value_over value_types.UntypedInt words.Bool e = absurd (cc e)
  value_over value_types.UntypedBool words.Int e = absurd (cc e)
  value_over value_types.UntypedBool words.Bool e = refl
  value_over value_types.UntypedText words.Int e = absurd (cc e)
  value_over value_types.UntypedText words.Bool e = absurd (cc e)
  value_over value_types.Nil w e = absurd (cc e)
