-- What operators make of operands, and what code folds of their constants.
use Rattle.std.proofs.Common.{◌≡◌, Bool, true, false, ◌||◌, ◌⊎◌, inl, inr, Option, Some, None, Result, Err, refl, sym, ap, subst, ◌∙◌, if◌then◌else◌}
use Rattle.std.proofs.lemmas.Option.{none-some}
use Rattle.std.specs.Prelude.{ℤ, pos, neg_ℤ, ◌+ℤ◌, ◌-ℤ◌, ◌*ℤ◌, int_div, int_rem}
use Rattle.go_path_core.specs.text_core.declared.rule.Rule.{Rule}
use Rattle.go_tree_nodes.specs.token_core.declared.kind.Operator.{Operator}
use Rattle.go_tree_nodes.specs.token_core.declared.kind.Operator.TheVariants as operators
use Rattle.go_constant_core.specs.declared.values.Constant.{Constant}
use Rattle.go_constant_core.specs.declared.values.Constant.TheVariants as values
use Rattle.go_constant_core.specs.Values as constants
use Rattle.go_report_core.specs.operand_core.declared.types.ValueType.{ValueType}
use Rattle.go_report_core.specs.operand_core.declared.types.ValueType.TheVariants as value_types
use Rattle.go_report_core.specs.operand_core.declared.types.Operand.{Operand}
use Rattle.go_report_core.specs.operand_core.TypeRules.{TypeRules}
use Rattle.go_report_core.specs.operand_core.Values.{is_over, basic_under}
use Rattle.go_report_core.specs.operand_core.Assign.{common, comparable}
use Rattle.go_term_core.specs.declared.term.Basic.{Basic}
use Rattle.go_term_core.specs.declared.term.Basic.TheVariants as basics
use Rattle.go_report_core.specs.operand_core.Operators as binaries
use Rattle.go_report_core.specs.operand_core.Prefixes as unaries
use Rattle.go_report_core.specs.operand_core.Prefixes.{refused_unary}
use Rattle.go_report_core.specs.denote_core.declared.things.Denoted.{Denoted}
use Rattle.go_report_core.specs.denote_core.declared.things.Denoted.TheVariants as denotes
use Rattle.go_report_core.specs.expr_core.Operators.{of_operand, passed, pointer_type, is_star, operand_of, unary_of, binary_operands, binary_of}
use Rattle.go_object_core.specs.declared.instructions.letters.Word.{Word}
use Rattle.go_object_core.specs.declared.instructions.letters.Word.TheVariants as words
use Rattle.go_code_core.specs.declared.fragments.names.ConstantWord.{ConstantWord}
use Rattle.go_code_core.specs.declared.fragments.names.Gives.TheVariants as gives
use Rattle.go_code_core.specs.fragments.Fragment.{over, unary_word, binary_word}
use Rattle.go_code_core.specs.fragments.Constants.{held, some_held, folded_unary, folded_binary}
use Rattle.go_code_core.specs.fragments.Names.{word_of}
use Rattle.go_workspace_laws.specs.folding.Reading.{basic_of}
use Rattle.go_workspace_laws.specs.folding.Laws.{is_text, IsNoText, constant_in}
use Rattle.go_workspace_laws.proofs.FoldingWords.{one_same, unary_words, binary_words, over_basic, common_over, sum_over}

-- What is denoted is the constant that code takes it for, or none. Where this is certain of names it is an operand, and where this is known of them both are
-- over this word.
pub record IsJudged (T S D : Type 0) (rules : TypeRules T) (Certain Known : Type 0) (w : Word) (d : Denoted T S D) (v : Option ConstantWord) : Type 0 where
  pub value : v ≡ some_held (constant_in d)
  pub no_text : IsNoText (constant_in d)
  pub operand : Certain → (o : Operand T) × (d ≡ denotes.«Value» o)
  pub over : Known → (o : Operand T) → d ≡ denotes.«Value» o → basic_under rules o.value_type ≡ Some (basic_of w)
  pub word : Known → (k : ConstantWord) → v ≡ Some k → word_of k ≡ w

-- an operand
pub operand_judged : {T : Type 0} (S D : Type 0) (rules : TypeRules T) (Certain Known : Type 0) (w : Word) (o : Operand T) (v : Option ConstantWord) → v ≡ some_held o.constant → IsNoText o.constant
    → (Known → basic_under rules o.value_type ≡ Some (basic_of w)) → (Known → (k : ConstantWord) → v ≡ Some k → word_of k ≡ w) → IsJudged T S D rules Certain Known w (denotes.«Value» o) v
operand_judged {T} S D rules Certain Known w o v value text over word = record {
  value = value;
  no_text = text;
  operand = λ certain. (o, refl);
  over = λ known p is. (let same : o ≡ p = cc in subst (λ q. basic_under rules q.value_type ≡ Some (basic_of w)) same (over known));
  word = word;
}

-- no operand, which code takes for no constant
pub refused_judged : (T S D : Type 0) (rules : TypeRules T) (Certain Known : Type 0) (w : Word) (v : Option ConstantWord) → v ≡ None → (Certain → ⊥) → IsJudged T S D rules Certain Known w denotes.Refused v
refused_judged T S D rules Certain Known w v none never = record {
  value = none;
  no_text = tt;
  operand = λ certain. absurd (never certain);
  over = λ known o is. absurd cc;
  word = λ known k is. absurd (none-some k (sym none ∙ is));
}

-- no operand, and so no constant
pub record IsNone (T S D : Type 0) (d : Denoted T S D) : Type 0 where
  pub none : operand_of d ≡ None
  pub constant : constant_in d ≡ None
  pub never : (o : Operand T) → d ≡ denotes.«Value» o → ⊥

-- an operand, or none
pub operand_or : {T S D : Type 0} (d : Denoted T S D) → ((o : Operand T) × (d ≡ denotes.«Value» o)) ⊎ IsNone T S D d
operand_or (denotes.«Value» o) = inl (o, refl)
operand_or (denotes.«Type» d t) = inr (record { none = refl; constant = refl; never = λ o is. cc })
operand_or denotes.Refused = inr (record { none = refl; constant = refl; never = λ o is. cc })
operand_or denotes.Typeless = inr (record { none = refl; constant = refl; never = λ o is. cc })
operand_or (denotes.«Package» d) = inr (record { none = refl; constant = refl; never = λ o is. cc })
operand_or (denotes.Several s) = inr (record { none = refl; constant = refl; never = λ o is. cc })
operand_or denotes.Nothing = inr (record { none = refl; constant = refl; never = λ o is. cc })
operand_or (denotes.Func d s) = inr (record { none = refl; constant = refl; never = λ o is. cc })
operand_or (denotes.Builtin d b) = inr (record { none = refl; constant = refl; never = λ o is. cc })

-- constants

ranged_no_text : (b : Bool) (z : ℤ) → IsNoText (if b then Some (values.Int z) else None)
ranged_no_text true z = refl
ranged_no_text false z = tt

in_range_no_text : (z : ℤ) → IsNoText (constants.ranged z)
in_range_no_text z = ranged_no_text (constants.fits_64_bits z) z

quotient_no_text : (b : Bool) (z : ℤ) → IsNoText (if b then Some values.Unknown else constants.ranged z)
quotient_no_text true z = refl
quotient_no_text false z = in_range_no_text z

divided_no_text : (f : ℤ → ℤ → ℤ) (a b : ℤ) → IsNoText (constants.divided f a b)
divided_no_text f a b = quotient_no_text (constants.int_same b (pos 0)) (f a b)

of_int_no_text : (op : Operator) (a : ℤ) → IsNoText (constants.of_int op a)
of_int_no_text operators.Plus a = refl
of_int_no_text operators.Minus a = in_range_no_text (neg_ℤ a)
of_int_no_text _ a = refl

of_bool_no_text : (op : Operator) (b : Bool) → is_text (constants.of_bool op b) ≡ false
of_bool_no_text operators.Not b = refl
of_bool_no_text _ b = refl

of_ints_no_text : (op : Operator) (a b : ℤ) → IsNoText (constants.of_ints op a b)
of_ints_no_text operators.Plus a b = in_range_no_text (a +ℤ b)
of_ints_no_text operators.Minus a b = in_range_no_text (a -ℤ b)
of_ints_no_text operators.Star a b = in_range_no_text (a *ℤ b)
of_ints_no_text operators.Slash a b = divided_no_text int_div a b
of_ints_no_text operators.Percent a b = divided_no_text int_rem a b
of_ints_no_text operators.Equal a b = refl
of_ints_no_text operators.NotEqual a b = refl
of_ints_no_text operators.Less a b = refl
of_ints_no_text operators.LessEqual a b = refl
of_ints_no_text operators.Greater a b = refl
of_ints_no_text operators.GreaterEqual a b = refl
of_ints_no_text _ a b = refl

of_bools_no_text : (op : Operator) (a b : Bool) → is_text (constants.of_bools op a b) ≡ false
of_bools_no_text operators.LogicalAnd a b = refl
of_bools_no_text operators.LogicalOr a b = refl
of_bools_no_text operators.Equal a b = refl
of_bools_no_text operators.NotEqual a b = refl
of_bools_no_text _ a b = refl

unary_no_text : (op : Operator) (c : Constant) → IsNoText (constants.unary op c)
unary_no_text op (values.Int a) = of_int_no_text op a
unary_no_text op (values.Bool b) = of_bool_no_text op b
unary_no_text op (values.Text t) = refl
unary_no_text op values.Unknown = refl

binary_no_text : (op : Operator) (c d : Constant) → is_text c ≡ false → IsNoText (constants.binary op c d)
binary_no_text op (values.Int a) (values.Int b) h = of_ints_no_text op a b
binary_no_text op (values.Int a) (values.Bool b) h = refl
binary_no_text op (values.Int a) (values.Text b) h = refl
binary_no_text op (values.Int a) values.Unknown h = refl
binary_no_text op (values.Bool a) (values.Int b) h = refl
binary_no_text op (values.Bool a) (values.Bool b) h = of_bools_no_text op a b
binary_no_text op (values.Bool a) (values.Text b) h = refl
binary_no_text op (values.Bool a) values.Unknown h = refl
binary_no_text op (values.Text a) d h = absurd cc
binary_no_text op values.Unknown d h = refl

-- the constant that code folds is the one of the check, where no text is among them

unary_held : (op : Operator) (c : Constant) → is_text c ≡ false → folded_unary op (held c) ≡ some_held (constants.unary op c)
unary_held op (values.Int a) h = refl
unary_held op (values.Bool b) h = refl
unary_held op (values.Text t) h = absurd cc
unary_held op values.Unknown h = refl

binary_held : (op : Operator) (c d : Constant) → is_text c ≡ false → is_text d ≡ false → folded_binary op (held c) (held d) ≡ some_held (constants.binary op c d)
binary_held op (values.Int a) (values.Int b) h k = refl
binary_held op (values.Int a) (values.Bool b) h k = refl
binary_held op (values.Int a) (values.Text b) h k = absurd cc
binary_held op (values.Int a) values.Unknown h k = refl
binary_held op (values.Bool a) (values.Int b) h k = refl
binary_held op (values.Bool a) (values.Bool b) h k = refl
binary_held op (values.Bool a) (values.Text b) h k = absurd cc
binary_held op (values.Bool a) values.Unknown h k = refl
binary_held op (values.Text a) d h k = absurd cc
binary_held op values.Unknown d h k = refl

nothing_second : (op : Operator) (v : Option ConstantWord) → folded_binary op v None ≡ None
nothing_second op None = refl
nothing_second op (Some v) = refl

-- operands

abbrev judged : {T : Type 0} (S D : Type 0) → Result (Operand T) Rule → Denoted T S D
judged {T} S D r = (of_operand {T = T} {S = S} {D = D} r).denoted

abbrev IsSound : {T : Type 0} (S D : Type 0) → Result (Operand T) Rule → Type 0
IsSound {T} S D r = (of_operand {T = T} {S = S} {D = D} r).fault ≡ None

module _ {T : Type 0} (S D : Type 0) (rules : TypeRules T) (Certain Known : Type 0) (w : Word) where
  abbrev Over : ValueType T → Type 0
  Over v = Known → basic_under rules v ≡ Some (basic_of w)

  -- what is folded is over this
  abbrev Words : Option ConstantWord → Type 0
  Words v = (k : ConstantWord) → v ≡ Some k → word_of k ≡ w

  plain_judged : (v : ValueType T) (c : Option ConstantWord) → c ≡ None → Over v → Words c → IsJudged T S D rules Certain Known w (denotes.«Value» (binaries.value v None)) c
  plain_judged v c same typed word = operand_judged S D rules Certain Known w (binaries.value v None) c same tt typed (λ known. word)

  computed_judged : (v : ValueType T) (r : Option Constant) (c : Option ConstantWord) → IsNoText r → c ≡ some_held r → Over v → Words c → IsSound S D (binaries.computed v r)
      → IsJudged T S D rules Certain Known w (judged S D (binaries.computed v r)) c
  computed_judged v None c text same typed word sound = absurd cc
  computed_judged v (Some k) c text same typed word sound = operand_judged S D rules Certain Known w (binaries.value v (Some k)) c same text typed (λ known. word)

  signed_judged : (op : Operator) (v : ValueType T) (c : Option Constant) → IsNoText c → Over v → Words (folded_unary op (some_held c)) → IsSound S D (unaries.signed op v c)
      → IsJudged T S D rules Certain Known w (judged S D (unaries.signed op v c)) (folded_unary op (some_held c))
  signed_judged op v None text typed word sound = plain_judged v None refl typed word
  signed_judged op v (Some c) text typed word sound = computed_judged v (constants.unary op c) (folded_unary op (held c)) (unary_no_text op c) (unary_held op c text) typed word sound

  if_signed : (b : Bool) (rule : Rule) (op : Operator) (v : ValueType T) (c : Option Constant) → IsNoText c → (b ≡ true → Over v) → Words (folded_unary op (some_held c))
      → IsSound S D (if b then unaries.signed op v c else Err rule) → IsJudged T S D rules Certain Known w (judged S D (if b then unaries.signed op v c else Err rule)) (folded_unary op (some_held c))
  if_signed true rule op v c text typed word sound = signed_judged op v c text (typed refl) word sound
  if_signed false rule op v c text typed word sound = absurd cc

  -- a sign, or a negation, of what is over its basic type
  over_judged : (b : Basic) (op : Operator) (o : Operand T) → basic_of w ≡ b → over (unary_word op) ≡ gives.One w → IsNoText o.constant → IsSound S D (unaries.signed_over rules b op o)
      → IsJudged T S D rules Certain Known w (judged S D (unaries.signed_over rules b op o)) (folded_unary op (some_held o.constant))
  over_judged b op o basic one text sound =
      if_signed (is_over b (basic_under rules o.value_type)) _ op o.value_type o.constant text (λ h known. over_basic b (basic_under rules o.value_type) h ∙ ap Some (sym basic)) (unary_words op (some_held o.constant) w one) sound

  pub unary_judged : (op : Operator) (literal : Bool) (o : Operand T) → over (unary_word op) ≡ gives.One w → IsNoText o.constant
      → (unary_of {T = T} {S = S} {D = D} rules op literal (denotes.«Value» o)).fault ≡ None
      → IsJudged T S D rules Certain Known w (unary_of {T = T} {S = S} {D = D} rules op literal (denotes.«Value» o)).denoted (folded_unary op (some_held o.constant))
  unary_judged operators.Plus literal o h text sound = over_judged basics.Int operators.Plus o (ap basic_of (sym (one_same words.Int w h))) h text sound
  unary_judged operators.Minus literal o h text sound = over_judged basics.Int operators.Minus o (ap basic_of (sym (one_same words.Int w h))) h text sound
  unary_judged operators.Not literal o h text sound = over_judged basics.Bool operators.Not o (ap basic_of (sym (one_same words.Bool w h))) h text sound
  unary_judged _ literal o h text sound = absurd cc

  module _ (op : Operator) (x y : Option Constant) (tx : IsNoText x) (ty : IsNoText y) (word : Words (folded_binary op (some_held x) (some_held y))) where
    with_judged : (v : ValueType T) (u z : Option Constant) → IsNoText u → IsNoText z → Over v → Words (folded_binary op (some_held u) (some_held z)) → IsSound S D (binaries.with_constants v op u z)
        → IsJudged T S D rules Certain Known w (judged S D (binaries.with_constants v op u z)) (folded_binary op (some_held u) (some_held z))
    with_judged v None z tu tz typed inner sound = plain_judged v None refl typed inner
    with_judged v (Some c) None tu tz typed inner sound = plain_judged v (folded_binary op (held c) None) (nothing_second op (held c)) typed inner
    with_judged v (Some c) (Some d) tu tz typed inner sound = computed_judged v (constants.binary op c d) (folded_binary op (held c) (held d)) (binary_no_text op c d tu) (binary_held op c d tu tz) typed inner sound

    if_with : (b : Bool) (rule : Rule) (v : ValueType T) → (b ≡ true → Over v) → IsSound S D (if b then binaries.with_constants v op x y else Err rule)
        → IsJudged T S D rules Certain Known w (judged S D (if b then binaries.with_constants v op x y else Err rule)) (folded_binary op (some_held x) (some_held y))
    if_with true rule v typed sound = with_judged v x y tx ty (typed refl) word sound
    if_with false rule v typed sound = absurd cc

    unless_zero : (b z : Bool) (rule other : Rule) (v : ValueType T) → (b ≡ true → Over v) → IsSound S D (if b then (if z then Err rule else binaries.with_constants v op x y) else Err other)
        → IsJudged T S D rules Certain Known w (judged S D (if b then (if z then Err rule else binaries.with_constants v op x y) else Err other)) (folded_binary op (some_held x) (some_held y))
    unless_zero true true rule other v typed sound = absurd cc
    unless_zero true false rule other v typed sound = with_judged v x y tx ty (typed refl) word sound
    unless_zero false z rule other v typed sound = absurd cc

    -- what is taken has the type that both operands have
    arithmetic_judged : (m : Option (ValueType T)) → ((v : ValueType T) → m ≡ Some v → binaries.takes (binaries.group op) (basic_under rules v) ≡ true → Over v) → IsSound S D (binaries.arithmetic rules op m x y)
        → IsJudged T S D rules Certain Known w (judged S D (binaries.arithmetic rules op m x y)) (folded_binary op (some_held x) (some_held y))
    arithmetic_judged None typed sound = absurd cc
    arithmetic_judged (Some v) typed sound = unless_zero _ _ _ _ v (typed v refl) sound

    -- a comparison gives an untyped boolean
    ordered_judged : (m : Option (ValueType T)) → basic_of w ≡ basics.Bool → IsSound S D (binaries.ordered rules op m x y)
        → IsJudged T S D rules Certain Known w (judged S D (binaries.ordered rules op m x y)) (folded_binary op (some_held x) (some_held y))
    ordered_judged None basic sound = absurd cc
    ordered_judged (Some v) basic sound = if_with _ _ value_types.UntypedBool (λ h known. ap Some (sym basic)) sound

    equated_judged : (b : Bool) → basic_of w ≡ basics.Bool → IsSound S D (binaries.equated {T = T} op b x y) → IsJudged T S D rules Certain Known w (judged S D (binaries.equated {T = T} op b x y)) (folded_binary op (some_held x) (some_held y))
    equated_judged b basic sound = if_with b _ value_types.UntypedBool (λ h known. ap Some (sym basic)) sound

  -- what an operand is over
  abbrev pub IsWord : ValueType T → Type 0
  IsWord v = Known → (u : Word) × (basic_under rules v ≡ Some (basic_of u))

  module _ (a b : Operand T) (left : IsWord a.value_type) (right : IsWord b.value_type) (ta : IsNoText a.constant) (tb : IsNoText b.constant) where
    -- of one kind
    taken_over : (basic : Basic) → basic_of w ≡ basic → (v : ValueType T) → is_over basic (basic_under rules v) ≡ true → Over v
    taken_over basic same v h known = over_basic basic (basic_under rules v) h ∙ ap Some (sym same)

    -- of a sum
    added_over : basic_of w ≡ basics.Int → (v : ValueType T) → common rules a.value_type b.value_type ≡ Some v → is_over basics.Int (basic_under rules v) || is_over basics.Text (basic_under rules v) ≡ true → Over v
    added_over same v both h known = elim (common_over rules a.value_type b.value_type v both) [
      | inl e ↦ (let u : (u : Word) × (basic_under rules a.value_type ≡ Some (basic_of u)) = left known in sum_over (basic_under rules v) u.0 (e ∙ u.1) h ∙ ap Some (sym same))
      | inr e ↦ (let u : (u : Word) × (basic_under rules b.value_type ≡ Some (basic_of u)) = right known in sum_over (basic_under rules v) u.0 (e ∙ u.1) h ∙ ap Some (sym same))
    ]

    -- each group of operators

    ints : gives.One words.Int ≡ gives.One w → basic_of w ≡ basics.Int
    ints h = ap basic_of (sym (one_same words.Int w h))

    bools : gives.One words.Bool ≡ gives.One w → basic_of w ≡ basics.Bool
    bools h = ap basic_of (sym (one_same words.Bool w h))

    module _ (op : Operator) (h : over (binary_word op) ≡ gives.One w) where
      arithmetic_of : ((v : ValueType T) → common rules a.value_type b.value_type ≡ Some v → binaries.takes (binaries.group op) (basic_under rules v) ≡ true → Over v) → IsSound S D (binaries.arithmetic rules op (common rules a.value_type b.value_type) a.constant b.constant)
          → IsJudged T S D rules Certain Known w (judged S D (binaries.arithmetic rules op (common rules a.value_type b.value_type) a.constant b.constant)) (folded_binary op (some_held a.constant) (some_held b.constant))
      arithmetic_of typed sound = arithmetic_judged op a.constant b.constant ta tb (binary_words op (some_held a.constant) (some_held b.constant) w h) (common rules a.value_type b.value_type) typed sound

      ordered_of : basic_of w ≡ basics.Bool → IsSound S D (binaries.ordered rules op (common rules a.value_type b.value_type) a.constant b.constant)
          → IsJudged T S D rules Certain Known w (judged S D (binaries.ordered rules op (common rules a.value_type b.value_type) a.constant b.constant)) (folded_binary op (some_held a.constant) (some_held b.constant))
      ordered_of basic sound = ordered_judged op a.constant b.constant ta tb (binary_words op (some_held a.constant) (some_held b.constant) w h) (common rules a.value_type b.value_type) basic sound

      equated_of : basic_of w ≡ basics.Bool → IsSound S D (binaries.equated {T = T} op (comparable rules a.value_type b.value_type) a.constant b.constant)
          → IsJudged T S D rules Certain Known w (judged S D (binaries.equated {T = T} op (comparable rules a.value_type b.value_type) a.constant b.constant)) (folded_binary op (some_held a.constant) (some_held b.constant))
      equated_of basic sound = equated_judged op a.constant b.constant ta tb (binary_words op (some_held a.constant) (some_held b.constant) w h) (comparable rules a.value_type b.value_type) basic sound

    pub binary_judged : (op : Operator) → over (binary_word op) ≡ gives.One w → (binary_of {T = T} {S = S} {D = D} rules op (denotes.«Value» a) (denotes.«Value» b)).fault ≡ None
        → IsJudged T S D rules Certain Known w (binary_of {T = T} {S = S} {D = D} rules op (denotes.«Value» a) (denotes.«Value» b)).denoted (folded_binary op (some_held a.constant) (some_held b.constant))
    binary_judged operators.Plus h sound = arithmetic_of operators.Plus h (λ v. added_over (ints h) v) sound
    binary_judged operators.Minus h sound = arithmetic_of operators.Minus h (λ v both. taken_over basics.Int (ints h) v) sound
    binary_judged operators.Star h sound = arithmetic_of operators.Star h (λ v both. taken_over basics.Int (ints h) v) sound
    binary_judged operators.Slash h sound = arithmetic_of operators.Slash h (λ v both. taken_over basics.Int (ints h) v) sound
    binary_judged operators.Percent h sound = arithmetic_of operators.Percent h (λ v both. taken_over basics.Int (ints h) v) sound
    binary_judged operators.LogicalAnd h sound = arithmetic_of operators.LogicalAnd h (λ v both. taken_over basics.Bool (bools h) v) sound
    binary_judged operators.LogicalOr h sound = arithmetic_of operators.LogicalOr h (λ v both. taken_over basics.Bool (bools h) v) sound
    binary_judged operators.Less h sound = ordered_of operators.Less h (bools h) sound
    binary_judged operators.LessEqual h sound = ordered_of operators.LessEqual h (bools h) sound
    binary_judged operators.Greater h sound = ordered_of operators.Greater h (bools h) sound
    binary_judged operators.GreaterEqual h sound = ordered_of operators.GreaterEqual h (bools h) sound
    binary_judged operators.Equal h sound = equated_of operators.Equal h (bools h) sound
    binary_judged operators.NotEqual h sound = equated_of operators.NotEqual h (bools h) sound
    binary_judged _ h sound = absurd cc

  -- an operator before what is denoted

  refused_unary_judged : (op : Operator) (d : Denoted T S D) (v : Option ConstantWord) (u : Word) → IsJudged T S D rules Certain Known u d v → constant_in d ≡ None → ((o : Operand T) → d ≡ denotes.«Value» o → ⊥)
      → IsJudged T S D rules Certain Known w denotes.Refused (folded_unary op v)
  refused_unary_judged op d v u j none never = refused_judged T S D rules Certain Known w (folded_unary op v) (ap (folded_unary op) (j.value ∙ ap some_held none)) (λ certain. never (j.operand certain).0 (j.operand certain).1)

  no_star : (op : Operator) → over (unary_word op) ≡ gives.One w → is_star op ≡ false
  no_star operators.Star h = absurd cc
  no_star _ h = refl

  refused_type : (b : Bool) (op : Operator) (x : Denoted T S D) (rule : Option Rule) (d : Denoted T S D) (v : Option ConstantWord) (u : Word) → b ≡ false → IsJudged T S D rules Certain Known u d v → constant_in d ≡ None
      → ((o : Operand T) → d ≡ denotes.«Value» o → ⊥) → IsJudged T S D rules Certain Known w (if b then record { denoted = x; fault = None } else passed {T = T} {S = S} {D = D} rule).denoted (folded_unary op v)
  refused_type true op x rule d v u h j none never = absurd cc
  refused_type false op x rule d v u h j none never = refused_unary_judged op d v u j none never

  pub unary_of_judged : (op : Operator) (literal : Bool) (d : Denoted T S D) (v : Option ConstantWord) (u : Word) → over (unary_word op) ≡ gives.One w → IsJudged T S D rules Certain Known u d v → (unary_of rules op literal d).fault ≡ None
      → IsJudged T S D rules Certain Known w (unary_of rules op literal d).denoted (folded_unary op v)
  unary_of_judged op literal (denotes.«Value» o) v u h j sound =
      subst (λ x. IsJudged T S D rules Certain Known w (unary_of {T = T} {S = S} {D = D} rules op literal (denotes.«Value» o)).denoted (folded_unary op x)) (sym j.value) (unary_judged op literal o h j.no_text sound)
  unary_of_judged op literal (denotes.«Type» d t) v u h j sound = refused_type (is_star op) op (denotes.«Type» d (pointer_type rules t)) (refused_unary op) (denotes.«Type» d t) v u (no_star op h) j refl (λ o is. cc)
  unary_of_judged op literal denotes.Refused v u h j sound = refused_unary_judged op denotes.Refused v u j refl (λ o is. cc)
  unary_of_judged op literal denotes.Typeless v u h j sound = refused_unary_judged op denotes.Typeless v u j refl (λ o is. cc)
  unary_of_judged op literal (denotes.«Package» d) v u h j sound = refused_unary_judged op (denotes.«Package» d) v u j refl (λ o is. cc)
  unary_of_judged op literal (denotes.Several s) v u h j sound = refused_unary_judged op (denotes.Several s) v u j refl (λ o is. cc)
  unary_of_judged op literal denotes.Nothing v u h j sound = refused_unary_judged op denotes.Nothing v u j refl (λ o is. cc)
  unary_of_judged op literal (denotes.Func d s) v u h j sound = refused_unary_judged op (denotes.Func d s) v u j refl (λ o is. cc)
  unary_of_judged op literal (denotes.Builtin d b) v u h j sound = refused_unary_judged op (denotes.Builtin d b) v u j refl (λ o is. cc)

  -- an operator between what is denoted

  module _ (op : Operator) (h : over (binary_word op) ≡ gives.One w) (u v : Option ConstantWord) (s t : Word) where
    refused_first : (x y : Option (Operand T)) → x ≡ None → u ≡ None → (Certain → ⊥) → IsJudged T S D rules Certain Known w (binary_operands {T = T} {S = S} {D = D} rules op x y).denoted (folded_binary op u v)
    refused_first None y h none never = refused_judged T S D rules Certain Known w (folded_binary op u v) (ap (λ k. folded_binary op k v) none) never
    refused_first (Some a) y h none never = absurd cc

    refused_second : (x y : Option (Operand T)) → y ≡ None → v ≡ None → (Certain → ⊥) → IsJudged T S D rules Certain Known w (binary_operands {T = T} {S = S} {D = D} rules op x y).denoted (folded_binary op u v)
    refused_second None y h none never = refused_judged T S D rules Certain Known w (folded_binary op u v) (ap (folded_binary op u) none ∙ nothing_second op u) never
    refused_second (Some a) None h none never = refused_judged T S D rules Certain Known w (folded_binary op u v) (ap (folded_binary op u) none ∙ nothing_second op u) never
    refused_second (Some a) (Some b) h none never = absurd cc

    two_judged : (a b : Operand T) → IsJudged T S D rules Certain Known s (denotes.«Value» a) u → IsJudged T S D rules Certain Known t (denotes.«Value» b) v
        → (binary_of {T = T} {S = S} {D = D} rules op (denotes.«Value» a) (denotes.«Value» b)).fault ≡ None
        → IsJudged T S D rules Certain Known w (binary_of {T = T} {S = S} {D = D} rules op (denotes.«Value» a) (denotes.«Value» b)).denoted (folded_binary op u v)
    two_judged a b j k sound =
        subst (λ x. IsJudged T S D rules Certain Known w (binary_of {T = T} {S = S} {D = D} rules op (denotes.«Value» a) (denotes.«Value» b)).denoted (folded_binary op x v)) (sym j.value)
        (subst (λ x. IsJudged T S D rules Certain Known w (binary_of {T = T} {S = S} {D = D} rules op (denotes.«Value» a) (denotes.«Value» b)).denoted (folded_binary op (some_held a.constant) x)) (sym k.value)
        (binary_judged a b (λ known. (s, j.over known a refl)) (λ known. (t, k.over known b refl)) j.no_text k.no_text op h sound))

    pub binary_of_judged : (d e : Denoted T S D) → IsJudged T S D rules Certain Known s d u → IsJudged T S D rules Certain Known t e v → (binary_of rules op d e).fault ≡ None
        → IsJudged T S D rules Certain Known w (binary_of rules op d e).denoted (folded_binary op u v)
    binary_of_judged d e j k sound = elim (operand_or d) [
      | inr n ↦ refused_first (operand_of d) (operand_of e) n.none (j.value ∙ ap some_held n.constant) (λ certain. n.never (j.operand certain).0 (j.operand certain).1)
      | inl a ↦ elim (operand_or e) [
        | inr n ↦ refused_second (operand_of d) (operand_of e) n.none (k.value ∙ ap some_held n.constant) (λ certain. n.never (k.operand certain).0 (k.operand certain).1)
        | inl b ↦ (
            let P : Denoted T S D → Denoted T S D → Type 0 = λ x y. IsJudged T S D rules Certain Known s x u → IsJudged T S D rules Certain Known t y v → (binary_of rules op x y).fault ≡ None
            → IsJudged T S D rules Certain Known w (binary_of rules op x y).denoted (folded_binary op u v) in
            let first : P (denotes.«Value» a.0) e = subst (P (denotes.«Value» a.0)) (sym b.1) (two_judged a.0 b.0) in
            let whole : P d e = subst (λ x. P x e) (sym a.1) first in
            whole j k sound
            )
      ]
    ]
