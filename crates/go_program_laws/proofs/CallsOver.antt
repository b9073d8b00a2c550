-- Operators, conversions and calls make constants of types over what their values are.
use Rattle.std.proofs.Common.{◌≡◌, ℕ, ℤ, pos, Bool, true, false, ◌&&◌, ◌||◌, List, length, Option, Some, None, Ok, Err, refl, sym, ap, ◌∙◌, subst, nat_lt, if◌then◌else◌}
use Rattle.std.specs.Prelude.{◌^◌, ◌+ℤ◌, ◌-ℤ◌, ◌*ℤ◌, neg_ℤ, int_div, int_rem, Result}
use Rattle.go_constant_core.specs.text_core.declared.rule.Rule.{Rule}
use Rattle.go_constant_core.specs.text_core.declared.rule.Rule.TheVariants.{C4, X1, Y3, Y7}
use Rattle.go_tree_nodes.specs.token_core.declared.kind.Operator.{Operator}
use Rattle.go_tree_nodes.specs.token_core.declared.kind.Operator.TheVariants as operators
use Rattle.go_term_core.specs.declared.term.Basic.{Basic}
use Rattle.go_term_core.specs.declared.term.Basic.TheVariants as basics
use Rattle.go_constant_core.specs.declared.values.Constant.{Constant}
use Rattle.go_constant_core.specs.declared.values.Constant.TheVariants as values
use Rattle.go_constant_core.specs.Values.{binary, divided, fits_64_bits, int_same, natural, of_int, ranged, unary}
use Rattle.go_report_core.specs.operand_core.declared.types.Operand.{Operand}
use Rattle.go_report_core.specs.operand_core.declared.types.TypeForm.{TypeForm}
use Rattle.go_report_core.specs.operand_core.declared.types.TypeForm.TheVariants as forms
use Rattle.go_report_core.specs.operand_core.declared.types.ValueType.{ValueType}
use Rattle.go_report_core.specs.operand_core.declared.types.ValueType.TheVariants as types
use Rattle.go_report_core.specs.operand_core.TypeRules.{TypeRules}
use Rattle.go_report_core.specs.operand_core.Assign.{assignable, common, common_kind, common_typed, common_untyped, comparable, taken, takes_untyped}
use Rattle.go_report_core.specs.operand_core.Conversions.{convert, convertible, fits, kept, length_constant, length_of, makes_text}
use Rattle.go_report_core.specs.operand_core.Operators.{arithmetic, binary_operand, computed, divides, equated, group, is_some_zero, ordered, takes, value, with_constants}
use Rattle.go_report_core.specs.operand_core.Prefixes.{address, indirection, pointed, signed, signed_over, unary_operand}
use Rattle.go_report_core.specs.operand_core.Values.{basic_under, form_basic, is_basic, is_over, untyped}
use Rattle.go_program_laws.specs.calls.Constants.{AreKept, IsConstantOver, IsOperandOver, IsValueOver}

-- what is not known of a constant is asked of none
pub same_over : (k : Option Constant) (u w : Option Basic) → ((b c : Basic) → u ≡ Some b → w ≡ Some c → b ≡ c) → (c : Basic) → w ≡ Some c → IsConstantOver k u → IsConstantOver k w
same_over None u w same c is h = tt
same_over (Some (values.Int z)) u w same c is h = is ∙ ap Some (sym (same basics.Int c h is))
same_over (Some (values.Bool b)) u w same c is h = is ∙ ap Some (sym (same basics.Bool c h is))
same_over (Some (values.Text b)) u w same c is h = is ∙ ap Some (sym (same basics.Text c h is))
same_over (Some values.Unknown) u w same c is h = tt

basic_is : (b c : Basic) → is_basic b c ≡ true → b ≡ c
basic_is basics.Bool basics.Bool e = refl
basic_is basics.Int basics.Int e = refl
basic_is basics.Text basics.Text e = refl
basic_is basics.Bool basics.Int e = absurd (cc e)
basic_is basics.Bool basics.Text e = absurd (cc e)
basic_is basics.Int basics.Bool e = absurd (cc e)
basic_is basics.Int basics.Text e = absurd (cc e)
basic_is basics.Text basics.Bool e = absurd (cc e)
basic_is basics.Text basics.Int e = absurd (cc e)

over_is : (b : Basic) (o : Option Basic) → is_over b o ≡ true → o ≡ Some b
over_is b None e = absurd (cc e)
over_is b (Some c) e = ap Some (sym (basic_is b c e))

either_true : (a b : Bool) → (a || b) ≡ true → (P : Type 0) → (a ≡ true → P) → (b ≡ true → P) → P
either_true true b e P f g = f refl
either_true false b e P f g = g e

-- what takes an untyped value is over its kind
untyped_same : {T : Type 0} (b : Basic) (implements : Bool) (f : TypeForm T) (c : Basic) → form_basic f ≡ Some c → takes_untyped b implements f ≡ true → b ≡ c
untyped_same b implements (forms.Basic d) c is h = (let same : d ≡ c = cc is in basic_is b d h ∙ same)
untyped_same b implements forms.Nothing c is h = absurd (cc is)
untyped_same b implements (forms.Pointer t) c is h = absurd (cc is)
untyped_same b implements forms.Struct c is h = absurd (cc is)
untyped_same b implements forms.Interface c is h = absurd (cc is)

one_basic : (b c : Basic) → Some b ≡ Some c → b ≡ c
one_basic b c e = cc e

-- integers

ranged_over : (z : ℤ) (b : Option Basic) → b ≡ Some basics.Int → IsConstantOver (ranged z) b
ranged_over z b is = by (fits_64_bits z)
  where
    by : (t : Bool) → IsConstantOver (if t then Some (values.Int z) else None) b
    by true = is
    by false = tt

divided_over : (f : ℤ → ℤ → ℤ) (x y : ℤ) (b : Option Basic) → b ≡ Some basics.Int → IsConstantOver (divided f x y) b
divided_over f x y b is = by (int_same y (pos 0))
  where
    by : (t : Bool) → IsConstantOver (if t then Some values.Unknown else ranged (f x y)) b
    by true = tt
    by false = ranged_over (f x y) b is

pub natural_over : (n : ℕ) (b : Option Basic) → b ≡ Some basics.Int → IsConstantOver (Some (natural n)) b
natural_over n b is = by (nat_lt n (2 ^ 63))
  where
    by : (t : Bool) → IsConstantOver (Some (if t then values.Int (pos n) else values.Unknown)) b
    by true = is
    by false = tt

-- unary operators

int_signed : (op : Operator) (z : ℤ) (b : Option Basic) → b ≡ Some basics.Int → IsConstantOver (of_int op z) b
int_signed operators.Plus z b is = is
int_signed operators.Minus z b is = ranged_over (neg_ℤ z) b is
int_signed _ z b is = tt

bool_signed : (op : Operator) (t : Bool) (b : Option Basic) → b ≡ Some basics.Bool → IsConstantOver (unary op (values.Bool t)) b
bool_signed operators.Not t b is = is
bool_signed _ t b is = tt

unary_over : (op : Operator) (c : Constant) (b : Option Basic) → IsConstantOver (Some c) b → IsConstantOver (unary op c) b
unary_over op (values.Int z) b is = int_signed op z b is
unary_over op (values.Bool t) b is = bool_signed op t b is
unary_over op (values.Text t) b is = tt
unary_over op values.Unknown b is = tt

-- binary operators

-- two integers, two truths, and two texts; anything else is not known
by_kinds : (op : Operator) (b : Option Basic) → ((x y : ℤ) → IsConstantOver (binary op (values.Int x) (values.Int y)) b) → ((x y : Bool) → IsConstantOver (binary op (values.Bool x) (values.Bool y)) b)
    → ((x y : List ℕ) → IsConstantOver (binary op (values.Text x) (values.Text y)) b) → (c d : Constant) → IsConstantOver (binary op c d) b
by_kinds op b ints bools texts (values.Int x) (values.Int y) = ints x y
by_kinds op b ints bools texts (values.Bool x) (values.Bool y) = bools x y
by_kinds op b ints bools texts (values.Text x) (values.Text y) = texts x y
by_kinds op b ints bools texts (values.Int x) (values.Bool y) = tt
by_kinds op b ints bools texts (values.Int x) (values.Text y) = tt
by_kinds op b ints bools texts (values.Int x) values.Unknown = tt
by_kinds op b ints bools texts (values.Bool x) (values.Int y) = tt
by_kinds op b ints bools texts (values.Bool x) (values.Text y) = tt
by_kinds op b ints bools texts (values.Bool x) values.Unknown = tt
by_kinds op b ints bools texts (values.Text x) (values.Int y) = tt
by_kinds op b ints bools texts (values.Text x) (values.Bool y) = tt
by_kinds op b ints bools texts (values.Text x) values.Unknown = tt
by_kinds op b ints bools texts values.Unknown d = tt

sum_over : (b : Option Basic) (c d : Constant) → IsConstantOver (Some c) b → IsConstantOver (binary operators.Plus c d) b
sum_over b (values.Int x) (values.Int y) is = ranged_over (x +ℤ y) b is
sum_over b (values.Bool x) (values.Bool y) is = tt
sum_over b (values.Text x) (values.Text y) is = is
sum_over b (values.Int x) (values.Bool y) is = tt
sum_over b (values.Int x) (values.Text y) is = tt
sum_over b (values.Int x) values.Unknown is = tt
sum_over b (values.Bool x) (values.Int y) is = tt
sum_over b (values.Bool x) (values.Text y) is = tt
sum_over b (values.Bool x) values.Unknown is = tt
sum_over b (values.Text x) (values.Int y) is = tt
sum_over b (values.Text x) (values.Bool y) is = tt
sum_over b (values.Text x) values.Unknown is = tt
sum_over b values.Unknown d is = tt

module _ {T : Type 0} (rules : TypeRules T) (kept_types : AreKept rules) where
  abbrev pub IsResultOver : Result (Operand T) Rule → Type 0
  IsResultOver (Ok o) = IsOperandOver rules o
  IsResultOver (Err rule) = Unit {0}

  computed_over : (v : ValueType T) (k : Option Constant) → IsConstantOver k (basic_under rules v) → IsResultOver (computed v k)
  computed_over v None h = tt
  computed_over v (Some c) h = h

  with_over : (v : ValueType T) (op : Operator) (x y : Option Constant) → ((c d : Constant) → x ≡ Some c → IsConstantOver (binary op c d) (basic_under rules v)) → IsResultOver (with_constants v op x y)
  with_over v op None y h = tt
  with_over v op (Some c) None h = tt
  with_over v op (Some c) (Some d) h = computed_over v (binary op c d) (h c d refl)

  -- types

  pub assigned_same : (v : ValueType T) (t : T) (b c : Basic) → basic_under rules v ≡ Some b → form_basic (rules.form t) ≡ Some c → assignable rules v t ≡ true → b ≡ c
  assigned_same (types.Typed s) t b c hv ht h = kept_types.basics.assignable s t b c h hv ht
  assigned_same types.UntypedInt t b c hv ht h = sym (one_basic basics.Int b hv) ∙ untyped_same basics.Int _ (rules.form t) c ht h
  assigned_same types.UntypedText t b c hv ht h = sym (one_basic basics.Text b hv) ∙ untyped_same basics.Text _ (rules.form t) c ht h
  assigned_same types.UntypedBool t b c hv ht h = sym (one_basic basics.Bool b hv) ∙ untyped_same basics.Bool _ (rules.form t) c ht h
  assigned_same types.Nil t b c hv ht h = absurd (cc hv)

  converted_same : (v : ValueType T) (t : T) (b c : Basic) → basic_under rules v ≡ Some b → form_basic (rules.form t) ≡ Some c → convertible rules v t ≡ true → b ≡ c
  converted_same (types.Typed s) t b c hv ht h = kept_types.basics.convertible s t b c h hv ht
  converted_same types.UntypedInt t b c hv ht h = absurd (cc h)
  converted_same types.UntypedText t b c hv ht h = absurd (cc h)
  converted_same types.UntypedBool t b c hv ht h = absurd (cc h)
  converted_same types.Nil t b c hv ht h = absurd (cc h)

  fitted_same : (v : ValueType T) (t : T) (b c : Basic) → fits rules v t ≡ true → basic_under rules v ≡ Some b → form_basic (rules.form t) ≡ Some c → b ≡ c
  fitted_same v t b c h hv ht = either_true (assignable rules v t) (convertible rules v t) h (b ≡ c) (λ a. assigned_same v t b c hv ht a) (λ a. converted_same v t b c hv ht a)

  -- what two operands have in common is over what the first is over
  taken_same : (v : ValueType T) (t : T) (both : ValueType T) (b c : Basic) → taken rules v t ≡ Some both → basic_under rules v ≡ Some b → basic_under rules both ≡ Some c → b ≡ c
  taken_same v t both b c h hv hb = by (assignable rules v t) refl h
    where
      by : (a : Bool) → assignable rules v t ≡ a → (if a then Some (types.Typed t) else None) ≡ Some both → b ≡ c
      by true a e = (let same : types.Typed t ≡ both = cc e in assigned_same v t b c hv (subst (λ x. basic_under rules x ≡ Some c) (sym same) hb) a)
      by false a e = absurd (cc e)

  kind_same : (a d : Basic) (both : ValueType T) (b c : Basic) → common_kind a d ≡ Some both → Some a ≡ Some b → basic_under rules both ≡ Some c → b ≡ c
  kind_same a d both b c h ha hb = by (is_basic a d) h
    where
      own : (a : Basic) → basic_under rules (untyped a) ≡ Some a
      own basics.Bool = refl
      own basics.Int = refl
      own basics.Text = refl

      by : (t : Bool) → (if t then Some (untyped {T = T} a) else None) ≡ Some both → b ≡ c
      by true e = (let same : untyped a ≡ both = cc e in one_basic b c (sym ha ∙ (sym (own a) ∙ (ap (basic_under rules) same ∙ hb))))
      by false e = absurd (cc e)

  -- a typed operand keeps its type
  own_type : (s : T) (both : ValueType T) (t : Bool) (b c : Basic) → (if t then Some (types.Typed s) else None) ≡ Some both → form_basic (rules.form s) ≡ Some b → basic_under rules both ≡ Some c → b ≡ c
  own_type s both true b c e hs hb = (let same : types.Typed s ≡ both = cc e in one_basic b c (sym hs ∙ (ap (basic_under rules) same ∙ hb)))
  own_type s both false b c e hs hb = absurd (cc e)

  typed_same : (s : T) (w both : ValueType T) (b c : Basic) → common_typed rules s w ≡ Some both → form_basic (rules.form s) ≡ Some b → basic_under rules both ≡ Some c → b ≡ c
  typed_same s (types.Typed t) both b c h hs hb = own_type s both (rules.identical s t) b c h hs hb
  typed_same s types.UntypedInt both b c h hs hb = own_type s both (assignable rules types.UntypedInt s) b c h hs hb
  typed_same s types.UntypedText both b c h hs hb = own_type s both (assignable rules types.UntypedText s) b c h hs hb
  typed_same s types.UntypedBool both b c h hs hb = own_type s both (assignable rules types.UntypedBool s) b c h hs hb
  typed_same s types.Nil both b c h hs hb = own_type s both (assignable rules types.Nil s) b c h hs hb

  untyped_common : (a : Basic) (w both : ValueType T) (b c : Basic) → common_untyped rules a w ≡ Some both → basic_under rules (untyped a) ≡ Some b → Some a ≡ Some b → basic_under rules both ≡ Some c → b ≡ c
  untyped_common a (types.Typed t) both b c h hv ha hb = taken_same (untyped a) t both b c h hv hb
  untyped_common a types.UntypedInt both b c h hv ha hb = kind_same a basics.Int both b c h ha hb
  untyped_common a types.UntypedText both b c h hv ha hb = kind_same a basics.Text both b c h ha hb
  untyped_common a types.UntypedBool both b c h hv ha hb = kind_same a basics.Bool both b c h ha hb
  untyped_common a types.Nil both b c h hv ha hb = absurd (cc h)

  common_same : (v w both : ValueType T) (b c : Basic) → common rules v w ≡ Some both → basic_under rules v ≡ Some b → basic_under rules both ≡ Some c → b ≡ c
  common_same (types.Typed s) w both b c h hv hb = typed_same s w both b c h hv hb
  common_same types.UntypedInt w both b c h hv hb = untyped_common basics.Int w both b c h hv hv hb
  common_same types.UntypedText w both b c h hv hb = untyped_common basics.Text w both b c h hv hv hb
  common_same types.UntypedBool w both b c h hv hb = untyped_common basics.Bool w both b c h hv hv hb
  common_same types.Nil w both b c h hv hb = absurd (cc hv)

  -- unary operators

  signed_constant : (op : Operator) (v : ValueType T) (k : Option Constant) → IsConstantOver k (basic_under rules v) → IsResultOver (signed op v k)
  signed_constant op v None h = tt
  signed_constant op v (Some c) h = computed_over v (unary op c) (unary_over op c (basic_under rules v) h)

  signed_operand : (b : Basic) (op : Operator) (o : Operand T) → IsOperandOver rules o → IsResultOver (signed_over rules b op o)
  signed_operand b op o h = by (is_over b (basic_under rules o.value_type))
    where
      by : (t : Bool) → IsResultOver (if t then signed op o.value_type o.constant else Err Y3)
      by true = signed_constant op o.value_type o.constant h
      by false = tt

  pointed_over : (f : TypeForm T) → IsResultOver (pointed f)
  pointed_over forms.Nothing = tt
  pointed_over (forms.Basic b) = tt
  pointed_over (forms.Pointer t) = tt
  pointed_over forms.Struct = tt
  pointed_over forms.Interface = tt

  indirection_over : (v : ValueType T) → IsResultOver (indirection rules v)
  indirection_over (types.Typed t) = pointed_over (rules.form t)
  indirection_over types.UntypedInt = tt
  indirection_over types.UntypedText = tt
  indirection_over types.UntypedBool = tt
  indirection_over types.Nil = tt

  address_over : (may : Bool) (v : ValueType T) → IsResultOver (address rules may v)
  address_over true (types.Typed t) = tt
  address_over false (types.Typed t) = tt
  address_over may types.UntypedInt = tt
  address_over may types.UntypedText = tt
  address_over may types.UntypedBool = tt
  address_over may types.Nil = tt

  pub unary_operand_over : (op : Operator) (literal : Bool) (o : Operand T) → IsOperandOver rules o → IsResultOver (unary_operand rules op literal o)
  unary_operand_over operators.Plus literal o h = signed_operand basics.Int operators.Plus o h
  unary_operand_over operators.Minus literal o h = signed_operand basics.Int operators.Minus o h
  unary_operand_over operators.Not literal o h = signed_operand basics.Bool operators.Not o h
  unary_operand_over operators.Star literal o h = indirection_over o.value_type
  unary_operand_over operators.And literal o h = address_over _ o.value_type
  unary_operand_over _ literal o h = tt

  -- binary operators

  -- where the operator takes what both have in common, and what it makes of two constants is over that
  arithmetic_over : (op : Operator) (o : Option (ValueType T)) (x y : Option Constant)
      → ((v : ValueType T) → o ≡ Some v → takes (group op) (basic_under rules v) ≡ true → (c d : Constant) → x ≡ Some c → IsConstantOver (binary op c d) (basic_under rules v)) → IsResultOver (arithmetic rules op o x y)
  arithmetic_over op None x y h = tt
  arithmetic_over op (Some v) x y h = by (takes (group op) (basic_under rules v)) refl (divides op && is_some_zero y)
    where
      by : (t : Bool) → takes (group op) (basic_under rules v) ≡ t → (z : Bool) → IsResultOver (if t then (if z then Err Y7 else with_constants v op x y) else Err Y3)
      by true e true = tt
      by true e false = with_over v op x y (λ c d is. h v refl e c d is)
      by false e z = tt

  ordered_over : (op : Operator) (o : Option (ValueType T)) (x y : Option Constant) → ((c d : Constant) → IsConstantOver (binary op c d) (Some basics.Bool)) → IsResultOver (ordered rules op o x y)
  ordered_over op None x y h = tt
  ordered_over op (Some v) x y h = by (takes (group op) (basic_under rules v))
    where
      by : (t : Bool) → IsResultOver (if t then with_constants types.UntypedBool op x y else Err Y3)
      by true = with_over types.UntypedBool op x y (λ c d is. h c d)
      by false = tt

  equated_over : (op : Operator) (t : Bool) (x y : Option Constant) → ((c d : Constant) → IsConstantOver (binary op c d) (Some basics.Bool)) → IsResultOver (equated op t x y)
  equated_over op true x y h = with_over types.UntypedBool op x y (λ c d is. h c d)
  equated_over op false x y h = tt

  sum_of : (a b : Operand T) → IsOperandOver rules a → (v : ValueType T) → common rules a.value_type b.value_type ≡ Some v → takes (group operators.Plus) (basic_under rules v) ≡ true
      → (c d : Constant) → a.constant ≡ Some c → IsConstantOver (binary operators.Plus c d) (basic_under rules v)
  sum_of a b h v e t c d is =
      let mine : IsConstantOver (Some c) (basic_under rules a.value_type) = subst (λ k. IsConstantOver k (basic_under rules a.value_type)) is h in
      let over = λ (x : Basic) (there : basic_under rules v ≡ Some x). same_over (Some c) (basic_under rules a.value_type) (basic_under rules v) (λ p q hp hq. common_same a.value_type b.value_type v p q e hp hq) x there mine in
      sum_over (basic_under rules v) c d
      (either_true (is_over basics.Int (basic_under rules v)) (is_over basics.Text (basic_under rules v)) t (IsConstantOver (Some c) (basic_under rules v))
      (λ i. over basics.Int (over_is basics.Int (basic_under rules v) i)) (λ i. over basics.Text (over_is basics.Text (basic_under rules v) i)))

  pub binary_operand_over : (op : Operator) (a b : Operand T) → IsOperandOver rules a → IsResultOver (binary_operand rules op a b)
  binary_operand_over operators.Plus a b h = arithmetic_over operators.Plus (common rules a.value_type b.value_type) a.constant b.constant (sum_of a b h)
  binary_operand_over operators.Minus a b h =
      arithmetic_over operators.Minus (common rules a.value_type b.value_type) a.constant b.constant (λ v e t c d is. by_kinds operators.Minus (basic_under rules v) (λ x y. ranged_over (x -ℤ y) (basic_under rules v) (over_is basics.Int (basic_under rules v) t)) (λ x y. tt) (λ x y. tt) c d)
  binary_operand_over operators.Star a b h =
      arithmetic_over operators.Star (common rules a.value_type b.value_type) a.constant b.constant (λ v e t c d is. by_kinds operators.Star (basic_under rules v) (λ x y. ranged_over (x *ℤ y) (basic_under rules v) (over_is basics.Int (basic_under rules v) t)) (λ x y. tt) (λ x y. tt) c d)
  binary_operand_over operators.Slash a b h =
      arithmetic_over operators.Slash (common rules a.value_type b.value_type) a.constant b.constant (λ v e t c d is. by_kinds operators.Slash (basic_under rules v) (λ x y. divided_over int_div x y (basic_under rules v) (over_is basics.Int (basic_under rules v) t)) (λ x y. tt) (λ x y. tt) c d)
  binary_operand_over operators.Percent a b h =
      arithmetic_over operators.Percent (common rules a.value_type b.value_type) a.constant b.constant (λ v e t c d is. by_kinds operators.Percent (basic_under rules v) (λ x y. divided_over int_rem x y (basic_under rules v) (over_is basics.Int (basic_under rules v) t)) (λ x y. tt) (λ x y. tt) c d)
  binary_operand_over operators.LogicalAnd a b h =
      arithmetic_over operators.LogicalAnd (common rules a.value_type b.value_type) a.constant b.constant (λ v e t c d is. by_kinds operators.LogicalAnd (basic_under rules v) (λ x y. tt) (λ x y. over_is basics.Bool (basic_under rules v) t) (λ x y. tt) c d)
  binary_operand_over operators.LogicalOr a b h =
      arithmetic_over operators.LogicalOr (common rules a.value_type b.value_type) a.constant b.constant (λ v e t c d is. by_kinds operators.LogicalOr (basic_under rules v) (λ x y. tt) (λ x y. over_is basics.Bool (basic_under rules v) t) (λ x y. tt) c d)
  binary_operand_over operators.Less a b h = ordered_over operators.Less (common rules a.value_type b.value_type) a.constant b.constant (by_kinds operators.Less (Some basics.Bool) (λ x y. refl) (λ x y. tt) (λ x y. refl))
  binary_operand_over operators.LessEqual a b h = ordered_over operators.LessEqual (common rules a.value_type b.value_type) a.constant b.constant (by_kinds operators.LessEqual (Some basics.Bool) (λ x y. refl) (λ x y. tt) (λ x y. refl))
  binary_operand_over operators.Greater a b h = ordered_over operators.Greater (common rules a.value_type b.value_type) a.constant b.constant (by_kinds operators.Greater (Some basics.Bool) (λ x y. refl) (λ x y. tt) (λ x y. refl))
  binary_operand_over operators.GreaterEqual a b h = ordered_over operators.GreaterEqual (common rules a.value_type b.value_type) a.constant b.constant (by_kinds operators.GreaterEqual (Some basics.Bool) (λ x y. refl) (λ x y. tt) (λ x y. refl))
  binary_operand_over operators.Equal a b h = equated_over operators.Equal (comparable rules a.value_type b.value_type) a.constant b.constant (by_kinds operators.Equal (Some basics.Bool) (λ x y. refl) (λ x y. refl) (λ x y. refl))
  binary_operand_over operators.NotEqual a b h = equated_over operators.NotEqual (comparable rules a.value_type b.value_type) a.constant b.constant (by_kinds operators.NotEqual (Some basics.Bool) (λ x y. refl) (λ x y. refl) (λ x y. refl))
  binary_operand_over _ a b h = tt

  -- conversions and lengths

  kept_over : (k : Option Constant) (v : ValueType T) (t : T) (f : Option Basic) → form_basic (rules.form t) ≡ f → ((b c : Basic) → basic_under rules v ≡ Some b → form_basic (rules.form t) ≡ Some c → b ≡ c)
      → IsConstantOver k (basic_under rules v) → IsConstantOver (kept f k) (form_basic (rules.form t))
  kept_over k v t None e same h = tt
  kept_over k v t (Some c) e same h = same_over k (basic_under rules v) (form_basic (rules.form t)) same c e h

  pub convert_over : (o : Operand T) (t : T) → IsOperandOver rules o → IsResultOver (convert rules o t)
  convert_over o t h = by (makes_text rules o.value_type t) (fits rules o.value_type t) refl
    where
      by : (a b : Bool) → fits rules o.value_type t ≡ b → IsResultOver (if a then Err X1 else (if b then Ok (value (types.Typed t) (kept (form_basic (rules.form t)) o.constant)) else Err C4))
      by true b e = tt
      by false true e = kept_over o.constant o.value_type t (form_basic (rules.form t)) refl (λ b c hv ht. fitted_same o.value_type t b c e hv ht) h
      by false false e = tt

  length_over : (k : Option Constant) → IsConstantOver (length_constant k) (form_basic (rules.form rules.int))
  length_over None = tt
  length_over (Some (values.Text t)) = natural_over (length t) (form_basic (rules.form rules.int)) kept_types.predeclared.int
  length_over (Some (values.Int z)) = tt
  length_over (Some (values.Bool b)) = tt
  length_over (Some values.Unknown) = tt

  pub length_of_over : (o : Operand T) → IsValueOver rules (length_of rules o)
  length_of_over o = by (is_over basics.Text (basic_under rules o.value_type))
    where
      by : (t : Bool) → IsValueOver rules (if t then Some (value (types.Typed rules.int) (length_constant o.constant)) else None)
      by true = length_over o.constant
      by false = tt
