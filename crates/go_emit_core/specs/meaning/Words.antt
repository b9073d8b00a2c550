-- What types and values are over: `int`, `bool` or something else.
--
-- docs/RULES.md, "Stack code". The Go specification, "Underlying types", "Function types".
use Rattle.std.specs.Prelude.{List, [], ◌∷◌, Option, Some, None}
use Rattle.go_term_core.specs.declared.term.Basic.{Basic}
use Rattle.go_term_core.specs.declared.term.Basic.TheVariants as basics
use Rattle.go_term_core.specs.Terms.{Term, Sign}
use Rattle.go_expr_core.specs.operand_core.declared.types.TypeForm.{TypeForm}
use Rattle.go_expr_core.specs.operand_core.declared.types.TypeForm.TheVariants as forms
use Rattle.go_expr_core.specs.operand_core.declared.types.ValueType.{ValueType}
use Rattle.go_expr_core.specs.operand_core.declared.types.ValueType.TheVariants as value_types
use Rattle.go_table_core.specs.Entries.{Entry, find_entry}
use Rattle.go_declared_core.specs.handle_core.DecidingRules.{form_of, results_of}
use Rattle.go_object_core.specs.declared.instructions.letters.Word.{Word}
use Rattle.go_object_core.specs.declared.instructions.letters.Word.TheVariants as words
use Rattle.go_code_core.specs.declared.fragments.names.Gives.{Gives}
use Rattle.go_code_core.specs.declared.fragments.names.Gives.TheVariants as gives
use Rattle.go_code_core.specs.fragments.Fragment.{over}

abbrev pub basic_word : Basic → Option Word
basic_word basics.Int = Some words.Int
basic_word basics.Bool = Some words.Bool
basic_word basics.Text = None

abbrev pub form_word : TypeForm Term → Option Word
form_word (forms.Basic b) = basic_word b
form_word forms.Nothing = None
form_word (forms.Pointer t) = None
form_word forms.Struct = None
form_word forms.Interface = None

-- what a type of a table is over: what lies under it says it
abbrev pub word_in : List Entry → Term → Option Word
word_in es t = form_word (form_of (find_entry es) t)

abbrev pub some_word : List Entry → Option Term → Option Word
some_word es None = None
some_word es (Some t) = word_in es t

-- what a value is over: an untyped one counts by its default type
abbrev pub value_word : List Entry → ValueType Term → Option Word
value_word es (value_types.Typed t) = word_in es t
value_word es value_types.UntypedInt = Some words.Int
value_word es value_types.UntypedBool = Some words.Bool
value_word es value_types.UntypedText = None
value_word es value_types.Nil = None

abbrev pub results_give : List Entry → List (Option Term) → Gives
results_give es [] = gives.Nothing
results_give es (t ∷ []) = over (some_word es t)
results_give es (t ∷ (u ∷ ts)) = gives.Other

-- what a call gives of something with this signature
abbrev pub sign_gives : List Entry → Sign → Gives
sign_gives es g = results_give es (results_of (find_entry es) g)
