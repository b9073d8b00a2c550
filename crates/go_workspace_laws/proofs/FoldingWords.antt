-- What operators of code give is over their words: the constants that are folded, and the types that the check gives.
use Rattle.std.proofs.Common.{◌≡◌, Bool, true, false, ◌||◌, ◌⊎◌, inl, inr, refl, sym, ◌∙◌, ap, if◌then◌else◌}
use Rattle.std.specs.Prelude.{ℤ, pos, neg_ℤ, ◌+ℤ◌, ◌-ℤ◌, ◌*ℤ◌, int_div, int_rem, Option, Some, None}
use Rattle.go_tree_nodes.specs.token_core.declared.kind.Operator.{Operator}
use Rattle.go_tree_nodes.specs.token_core.declared.kind.Operator.TheVariants as operators
use Rattle.go_constant_core.specs.declared.values.Constant.TheVariants as values
use Rattle.go_constant_core.specs.Values as constants
use Rattle.go_term_core.specs.declared.term.Basic.{Basic}
use Rattle.go_term_core.specs.declared.term.Basic.TheVariants as basics
use Rattle.go_report_core.specs.operand_core.declared.types.ValueType.{ValueType}
use Rattle.go_report_core.specs.operand_core.declared.types.ValueType.TheVariants as value_types
use Rattle.go_report_core.specs.operand_core.TypeRules.{TypeRules}
use Rattle.go_report_core.specs.operand_core.Values.{is_basic, is_over, basic_under}
use Rattle.go_report_core.specs.operand_core.Assign.{assignable, common}
use Rattle.go_object_core.specs.declared.instructions.letters.Word.{Word}
use Rattle.go_object_core.specs.declared.instructions.letters.Word.TheVariants as words
use Rattle.go_code_core.specs.declared.fragments.names.ConstantWord.{ConstantWord}
use Rattle.go_code_core.specs.declared.fragments.names.ConstantWord.TheVariants as code_constants
use Rattle.go_code_core.specs.declared.fragments.names.Gives.TheVariants as gives
use Rattle.go_code_core.specs.fragments.Names.{word_of}
use Rattle.go_code_core.specs.fragments.Fragment.{over, unary_word, binary_word}
use Rattle.go_code_core.specs.fragments.Constants.{held, some_held, folded_unary, folded_binary}
use Rattle.go_workspace_laws.specs.folding.Reading.{basic_of}

pub one_same : (u w : Word) → gives.One u ≡ gives.One w → u ≡ w
one_same u w h = cc

-- constants

held_same : (v k : ConstantWord) → Some v ≡ Some k → word_of k ≡ word_of v
held_same v k h = (let same : v ≡ k = cc in ap word_of (sym same))

ranged_word : (b : Bool) (z : ℤ) (k : ConstantWord) → some_held (if b then Some (values.Int z) else None) ≡ Some k → word_of k ≡ words.Int
ranged_word true z k h = held_same (code_constants.Int z) k h
ranged_word false z k h = absurd cc

in_range_word : (z : ℤ) (k : ConstantWord) → some_held (constants.ranged z) ≡ Some k → word_of k ≡ words.Int
in_range_word z k h = ranged_word (constants.fits_64_bits z) z k h

quotient_word : (b : Bool) (z : ℤ) (k : ConstantWord) → some_held (if b then Some values.Unknown else constants.ranged z) ≡ Some k → word_of k ≡ words.Int
quotient_word true z k h = absurd cc
quotient_word false z k h = in_range_word z k h

divided_word : (f : ℤ → ℤ → ℤ) (a b : ℤ) (k : ConstantWord) → some_held (constants.divided f a b) ≡ Some k → word_of k ≡ words.Int
divided_word f a b k h = quotient_word (constants.int_same b (pos 0)) (f a b) k h

bool_word : (b : Bool) (k : ConstantWord) → held (values.Bool b) ≡ Some k → word_of k ≡ words.Bool
bool_word b k h = held_same (code_constants.Bool b) k h

of_int_word : (op : Operator) (a : ℤ) (w : Word) (k : ConstantWord) → over (unary_word op) ≡ gives.One w → some_held (constants.of_int op a) ≡ Some k → word_of k ≡ w
of_int_word operators.Plus a w k one h = held_same (code_constants.Int a) k h ∙ one_same words.Int w one
of_int_word operators.Minus a w k one h = in_range_word (neg_ℤ a) k h ∙ one_same words.Int w one
of_int_word operators.Not a w k one h = absurd cc
of_int_word _ a w k one h = absurd cc

of_bool_word : (op : Operator) (b : Bool) (w : Word) (k : ConstantWord) → over (unary_word op) ≡ gives.One w → held (constants.of_bool op b) ≡ Some k → word_of k ≡ w
of_bool_word operators.Not b w k one h = bool_word _ k h ∙ one_same words.Bool w one
of_bool_word _ b w k one h = absurd cc

of_ints_word : (op : Operator) (a b : ℤ) (w : Word) (k : ConstantWord) → over (binary_word op) ≡ gives.One w → some_held (constants.of_ints op a b) ≡ Some k → word_of k ≡ w
of_ints_word operators.Plus a b w k one h = in_range_word (a +ℤ b) k h ∙ one_same words.Int w one
of_ints_word operators.Minus a b w k one h = in_range_word (a -ℤ b) k h ∙ one_same words.Int w one
of_ints_word operators.Star a b w k one h = in_range_word (a *ℤ b) k h ∙ one_same words.Int w one
of_ints_word operators.Slash a b w k one h = divided_word int_div a b k h ∙ one_same words.Int w one
of_ints_word operators.Percent a b w k one h = divided_word int_rem a b k h ∙ one_same words.Int w one
of_ints_word operators.Equal a b w k one h = bool_word _ k h ∙ one_same words.Bool w one
of_ints_word operators.NotEqual a b w k one h = bool_word _ k h ∙ one_same words.Bool w one
of_ints_word operators.Less a b w k one h = bool_word _ k h ∙ one_same words.Bool w one
of_ints_word operators.LessEqual a b w k one h = bool_word _ k h ∙ one_same words.Bool w one
of_ints_word operators.Greater a b w k one h = bool_word _ k h ∙ one_same words.Bool w one
of_ints_word operators.GreaterEqual a b w k one h = bool_word _ k h ∙ one_same words.Bool w one
of_ints_word _ a b w k one h = absurd cc

of_bools_word : (op : Operator) (a b : Bool) (w : Word) (k : ConstantWord) → over (binary_word op) ≡ gives.One w → held (constants.of_bools op a b) ≡ Some k → word_of k ≡ w
of_bools_word operators.LogicalAnd a b w k one h = bool_word _ k h ∙ one_same words.Bool w one
of_bools_word operators.LogicalOr a b w k one h = bool_word _ k h ∙ one_same words.Bool w one
of_bools_word operators.Equal a b w k one h = bool_word _ k h ∙ one_same words.Bool w one
of_bools_word operators.NotEqual a b w k one h = bool_word _ k h ∙ one_same words.Bool w one
of_bools_word _ a b w k one h = absurd cc

-- what a unary operator folds is over the word that it gives
pub unary_words : (op : Operator) (v : Option ConstantWord) (w : Word) → over (unary_word op) ≡ gives.One w → (k : ConstantWord) → folded_unary op v ≡ Some k → word_of k ≡ w
unary_words op None w one k h = absurd cc
unary_words op (Some (code_constants.Int a)) w one k h = of_int_word op a w k one h
unary_words op (Some (code_constants.Bool b)) w one k h = of_bool_word op b w k one h

-- what a binary operator folds
pub binary_words : (op : Operator) (u v : Option ConstantWord) (w : Word) → over (binary_word op) ≡ gives.One w → (k : ConstantWord) → folded_binary op u v ≡ Some k → word_of k ≡ w
binary_words op None v w one k h = absurd cc
binary_words op (Some (code_constants.Int a)) None w one k h = absurd cc
binary_words op (Some (code_constants.Int a)) (Some (code_constants.Int b)) w one k h = of_ints_word op a b w k one h
binary_words op (Some (code_constants.Int a)) (Some (code_constants.Bool b)) w one k h = absurd cc
binary_words op (Some (code_constants.Bool a)) None w one k h = absurd cc
binary_words op (Some (code_constants.Bool a)) (Some (code_constants.Int b)) w one k h = absurd cc
binary_words op (Some (code_constants.Bool a)) (Some (code_constants.Bool b)) w one k h = of_bools_word op a b w k one h

-- types

pub basic_same : (b c : Basic) → is_basic b c ≡ true → Some c ≡ Some b
basic_same basics.Bool basics.Bool h = refl
basic_same basics.Int basics.Int h = refl
basic_same basics.Text basics.Text h = refl
basic_same basics.Bool basics.Int h = absurd cc
basic_same basics.Bool basics.Text h = absurd cc
basic_same basics.Int basics.Bool h = absurd cc
basic_same basics.Int basics.Text h = absurd cc
basic_same basics.Text basics.Bool h = absurd cc
basic_same basics.Text basics.Int h = absurd cc

pub over_basic : (b : Basic) (x : Option Basic) → is_over b x ≡ true → x ≡ Some b
over_basic b None h = absurd cc
over_basic b (Some c) h = basic_same b c h

no_text_word : {A : Type 0} (u : Word) → Some basics.Text ≡ Some (basic_of u) → A
no_text_word words.Int h = absurd cc
no_text_word words.Bool h = absurd cc

-- a sum of words is one of integers
pub sum_over : (x : Option Basic) (u : Word) → x ≡ Some (basic_of u) → is_over basics.Int x || is_over basics.Text x ≡ true → x ≡ Some basics.Int
sum_over None u is h = absurd cc
sum_over (Some basics.Int) u is h = refl
sum_over (Some basics.Bool) u is h = absurd cc
sum_over (Some basics.Text) u is h = no_text_word u is

module _ {T : Type 0} (rules : TypeRules T) where
  taken_type : (b : Bool) (t : T) (both : ValueType T) → (if b then Some (value_types.Typed t) else None) ≡ Some both → basic_under rules both ≡ basic_under rules (value_types.Typed t)
  taken_type true t both h = (let same : value_types.Typed t ≡ both = cc in ap (basic_under rules) (sym same))
  taken_type false t both h = absurd cc

  found_type : (v both : ValueType T) → Some v ≡ Some both → basic_under rules both ≡ basic_under rules v
  found_type v both h = (let same : v ≡ both = cc in ap (basic_under rules) (sym same))

  -- what two operands have in common is over what one of them is over
  pub common_over : (v w both : ValueType T) → common rules v w ≡ Some both → (basic_under rules both ≡ basic_under rules v) ⊎ (basic_under rules both ≡ basic_under rules w)
  common_over (value_types.Typed s) (value_types.Typed t) both h = inl (taken_type (rules.identical s t) s both h)
  common_over (value_types.Typed s) value_types.UntypedInt both h = inl (taken_type (assignable rules value_types.UntypedInt s) s both h)
  common_over (value_types.Typed s) value_types.UntypedText both h = inl (taken_type (assignable rules value_types.UntypedText s) s both h)
  common_over (value_types.Typed s) value_types.UntypedBool both h = inl (taken_type (assignable rules value_types.UntypedBool s) s both h)
  common_over (value_types.Typed s) value_types.Nil both h = inl (taken_type (assignable rules value_types.Nil s) s both h)
  common_over value_types.UntypedInt (value_types.Typed t) both h = inr (taken_type (assignable rules value_types.UntypedInt t) t both h)
  common_over value_types.UntypedInt value_types.UntypedInt both h = inl (found_type value_types.UntypedInt both h)
  common_over value_types.UntypedInt value_types.UntypedText both h = absurd cc
  common_over value_types.UntypedInt value_types.UntypedBool both h = absurd cc
  common_over value_types.UntypedInt value_types.Nil both h = absurd cc
  common_over value_types.UntypedText (value_types.Typed t) both h = inr (taken_type (assignable rules value_types.UntypedText t) t both h)
  common_over value_types.UntypedText value_types.UntypedInt both h = absurd cc
  common_over value_types.UntypedText value_types.UntypedText both h = inl (found_type value_types.UntypedText both h)
  common_over value_types.UntypedText value_types.UntypedBool both h = absurd cc
  common_over value_types.UntypedText value_types.Nil both h = absurd cc
  common_over value_types.UntypedBool (value_types.Typed t) both h = inr (taken_type (assignable rules value_types.UntypedBool t) t both h)
  common_over value_types.UntypedBool value_types.UntypedInt both h = absurd cc
  common_over value_types.UntypedBool value_types.UntypedText both h = absurd cc
  common_over value_types.UntypedBool value_types.UntypedBool both h = inl (found_type value_types.UntypedBool both h)
  common_over value_types.UntypedBool value_types.Nil both h = absurd cc
  common_over value_types.Nil (value_types.Typed t) both h = inr (taken_type (assignable rules value_types.Nil t) t both h)
  common_over value_types.Nil value_types.UntypedInt both h = absurd cc
  common_over value_types.Nil value_types.UntypedText both h = absurd cc
  common_over value_types.Nil value_types.UntypedBool both h = absurd cc
  common_over value_types.Nil value_types.Nil both h = absurd cc
