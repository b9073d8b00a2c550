-- Constants of operands are values of their types.
use Rattle.std.proofs.Common.{◌≡◌, ℕ, Bool, true, false, not, ◌&&◌, ◌||◌, List, ◌++◌, ℤ, pos, ◌+ℤ◌, ◌-ℤ◌, ◌*ℤ◌, neg_ℤ, int_div, int_rem, Option, Some, None, Result, Ok, Err, if◌then◌else◌, refl, sym, ap, subst, ◌∙◌}
use Rattle.go_token_core.specs.text_core.declared.rule.Rule.{Rule}
use Rattle.go_token_core.specs.text_core.declared.rule.Rule.TheVariants.{Y3, Y7}
use Rattle.go_token_core.specs.declared.kind.Operator.{Operator}
use Rattle.go_token_core.specs.declared.kind.Operator.TheVariants as operators
use Rattle.go_constant_core.specs.declared.values.Constant.{Constant}
use Rattle.go_constant_core.specs.declared.values.Constant.TheVariants as constant
use Rattle.go_constant_core.specs.Values as constants
use Rattle.go_constant_core.proofs.Tests.{fits_tells}
use Rattle.go_term_core.specs.declared.term.Basic.{Basic}
use Rattle.go_term_core.specs.declared.term.Basic.TheVariants as basics
use Rattle.go_operand_core.specs.declared.types.ValueType.{ValueType}
use Rattle.go_operand_core.specs.declared.types.ValueType.TheVariants as types
use Rattle.go_operand_core.specs.declared.types.Operand.{Operand}
use Rattle.go_operand_core.specs.declared.types.TypeForm.{TypeForm}
use Rattle.go_operand_core.specs.declared.types.TypeForm.TheVariants as forms
use Rattle.go_operand_core.specs.declared.operators.Group.{Group}
use Rattle.go_operand_core.specs.declared.operators.Group.TheVariants as groups
use Rattle.go_operand_core.specs.TypeRules.{TypeRules}
use Rattle.go_operand_core.specs.Values.{is_over, form_basic, basic_under, untyped}
use Rattle.go_operand_core.specs.Assign.{common, comparable}
use Rattle.go_operand_core.specs.Operators.{group, divides, takes, is_some_zero, value, computed, with_constants, arithmetic, ordered, equated, binary_operand}
use Rattle.go_operand_core.specs.Prefixes.{signed, signed_over, pointed, indirection, address, unary_operand}
use Rattle.go_operand_core.specs.Relations.{IsAssignable, by_type, nil_to_pointer, nil_to_interface, by_kind, by_default_type, HaveCommon, of_one_type, first_takes, second_takes, of_one_kind, AreComparable, first_to_second, second_to_first, both_untyped, IsValueOf}
use Rattle.go_operand_core.specs.Known.{KeepsKinds, IsOfType, IsConstantOfItsType}
use Rattle.go_operand_core.proofs.Relating.{basic_same, if_some, shared, compared}
use Rattle.go_operand_core.proofs.Typing.{if_ok, accepted, constant_of}

-- what operators make of constants of a kind

ranged_value : (z : ℤ) (m : Constant) → constants.ranged z ≡ Some m → IsValueOf basics.Int m
ranged_value z m h =
    let p = if_some (constants.fits_64_bits z) (constant.Int z) m h in
    let P : Constant → Type 0 = IsValueOf basics.Int in
    subst P (sym p.1) ((fits_tells z).0 p.0)

unless_zero : (zero : Bool) (r : Option Constant) (m : Constant) → zero ≡ false → (if zero then Some constant.Unknown else r) ≡ Some m → r ≡ Some m
unless_zero true r m z h = absurd cc
unless_zero false r m z h = h

divided_value : (f : ℤ → ℤ → ℤ) (x y : ℤ) (m : Constant) → constants.int_same y (pos 0) ≡ false → constants.divided f x y ≡ Some m → IsValueOf basics.Int m
divided_value f x y m z h = ranged_value (f x y) m (unless_zero (constants.int_same y (pos 0)) (constants.ranged (f x y)) m z h)

text_value : (s : List ℕ) (m : Constant) → Some (constant.Text s) ≡ Some m → IsValueOf basics.Text m
text_value s m h = let e : constant.Text s ≡ m = cc in let P : Constant → Type 0 = IsValueOf basics.Text in subst P e tt

truth_value : (r : Bool) (m : Constant) → Some (constant.Bool r) ≡ Some m → IsValueOf basics.Bool m
truth_value r m h = let e : constant.Bool r ≡ m = cc in let P : Constant → Type 0 = IsValueOf basics.Bool in subst P e tt

with_ints : {P : Type 0} (k l : Constant) → IsValueOf basics.Int k → IsValueOf basics.Int l → ((x y : ℤ) → k ≡ constant.Int x → l ≡ constant.Int y → P) → P
with_ints (constant.Bool x) l v w f = absurd v
with_ints (constant.Int x) (constant.Bool y) v w f = absurd w
with_ints (constant.Int x) (constant.Int y) v w f = f x y refl refl
with_ints (constant.Int x) (constant.Text y) v w f = absurd w
with_ints (constant.Int x) constant.Unknown v w f = absurd w
with_ints (constant.Text x) l v w f = absurd v
with_ints constant.Unknown l v w f = absurd v

with_texts : {P : Type 0} (k l : Constant) → IsValueOf basics.Text k → IsValueOf basics.Text l → ((x y : List ℕ) → k ≡ constant.Text x → l ≡ constant.Text y → P) → P
with_texts (constant.Bool x) l v w f = absurd v
with_texts (constant.Int x) l v w f = absurd v
with_texts (constant.Text x) (constant.Bool y) v w f = absurd w
with_texts (constant.Text x) (constant.Int y) v w f = absurd w
with_texts (constant.Text x) (constant.Text y) v w f = f x y refl refl
with_texts (constant.Text x) constant.Unknown v w f = absurd w
with_texts constant.Unknown l v w f = absurd v

with_bools : {P : Type 0} (k l : Constant) → IsValueOf basics.Bool k → IsValueOf basics.Bool l → ((x y : Bool) → k ≡ constant.Bool x → l ≡ constant.Bool y → P) → P
with_bools (constant.Bool x) (constant.Bool y) v w f = f x y refl refl
with_bools (constant.Bool x) (constant.Int y) v w f = absurd w
with_bools (constant.Bool x) (constant.Text y) v w f = absurd w
with_bools (constant.Bool x) constant.Unknown v w f = absurd w
with_bools (constant.Int x) l v w f = absurd v
with_bools (constant.Text x) l v w f = absurd v
with_bools constant.Unknown l v w f = absurd v

at_constants : (op : Operator) (k l k' l' m : Constant) → k ≡ k' → l ≡ l' → constants.binary op k l ≡ Some m → constants.binary op k' l' ≡ Some m
at_constants op k l k' l' m e d h =
    let P : Constant → Type 0 = λ c. constants.binary op c l ≡ Some m in
    let Q : Constant → Type 0 = λ c. constants.binary op k' c ≡ Some m in
    subst Q d (subst P e h)

not_zero_at : (l : Constant) (y : ℤ) → l ≡ constant.Int y → constants.is_zero l ≡ false → constants.int_same y (pos 0) ≡ false
not_zero_at l y d z = let P : Constant → Type 0 = λ c. constants.is_zero c ≡ false in subst P d z

sum_value : (b : Basic) → takes groups.Sum (Some b) ≡ true → (k l m : Constant) → (divides operators.Plus && constants.is_zero l) ≡ false → IsValueOf b k → IsValueOf b l → constants.binary operators.Plus k l ≡ Some m → IsValueOf b m
sum_value basics.Bool t k l m z v w h = absurd cc
sum_value basics.Int t k l m z v w h = with_ints k l v w (λ x y e d. ranged_value (x +ℤ y) m (at_constants operators.Plus k l (constant.Int x) (constant.Int y) m e d h))
sum_value basics.Text t k l m z v w h = with_texts k l v w (λ x y e d. text_value (x ++ y) m (at_constants operators.Plus k l (constant.Text x) (constant.Text y) m e d h))

difference_value : (b : Basic) → takes groups.Arithmetic (Some b) ≡ true → (k l m : Constant) → (divides operators.Minus && constants.is_zero l) ≡ false → IsValueOf b k → IsValueOf b l → constants.binary operators.Minus k l ≡ Some m → IsValueOf b m
difference_value basics.Bool t k l m z v w h = absurd cc
difference_value basics.Int t k l m z v w h = with_ints k l v w (λ x y e d. ranged_value (x -ℤ y) m (at_constants operators.Minus k l (constant.Int x) (constant.Int y) m e d h))
difference_value basics.Text t k l m z v w h = absurd cc

product_value : (b : Basic) → takes groups.Arithmetic (Some b) ≡ true → (k l m : Constant) → (divides operators.Star && constants.is_zero l) ≡ false → IsValueOf b k → IsValueOf b l → constants.binary operators.Star k l ≡ Some m → IsValueOf b m
product_value basics.Bool t k l m z v w h = absurd cc
product_value basics.Int t k l m z v w h = with_ints k l v w (λ x y e d. ranged_value (x *ℤ y) m (at_constants operators.Star k l (constant.Int x) (constant.Int y) m e d h))
product_value basics.Text t k l m z v w h = absurd cc

quotient_value : (b : Basic) → takes groups.Arithmetic (Some b) ≡ true → (k l m : Constant) → (divides operators.Slash && constants.is_zero l) ≡ false → IsValueOf b k → IsValueOf b l → constants.binary operators.Slash k l ≡ Some m → IsValueOf b m
quotient_value basics.Bool t k l m z v w h = absurd cc
quotient_value basics.Int t k l m z v w h = with_ints k l v w (λ x y e d. divided_value int_div x y m (not_zero_at l y d z) (at_constants operators.Slash k l (constant.Int x) (constant.Int y) m e d h))
quotient_value basics.Text t k l m z v w h = absurd cc

remainder_value : (b : Basic) → takes groups.Arithmetic (Some b) ≡ true → (k l m : Constant) → (divides operators.Percent && constants.is_zero l) ≡ false → IsValueOf b k → IsValueOf b l → constants.binary operators.Percent k l ≡ Some m → IsValueOf b m
remainder_value basics.Bool t k l m z v w h = absurd cc
remainder_value basics.Int t k l m z v w h = with_ints k l v w (λ x y e d. divided_value int_rem x y m (not_zero_at l y d z) (at_constants operators.Percent k l (constant.Int x) (constant.Int y) m e d h))
remainder_value basics.Text t k l m z v w h = absurd cc

and_value : (b : Basic) → takes groups.Logic (Some b) ≡ true → (k l m : Constant) → (divides operators.LogicalAnd && constants.is_zero l) ≡ false → IsValueOf b k → IsValueOf b l → constants.binary operators.LogicalAnd k l ≡ Some m → IsValueOf b m
and_value basics.Bool t k l m z v w h = with_bools k l v w (λ x y e d. truth_value (x && y) m (at_constants operators.LogicalAnd k l (constant.Bool x) (constant.Bool y) m e d h))
and_value basics.Int t k l m z v w h = absurd cc
and_value basics.Text t k l m z v w h = absurd cc

or_value : (b : Basic) → takes groups.Logic (Some b) ≡ true → (k l m : Constant) → (divides operators.LogicalOr && constants.is_zero l) ≡ false → IsValueOf b k → IsValueOf b l → constants.binary operators.LogicalOr k l ≡ Some m → IsValueOf b m
or_value basics.Bool t k l m z v w h = with_bools k l v w (λ x y e d. truth_value (x || y) m (at_constants operators.LogicalOr k l (constant.Bool x) (constant.Bool y) m e d h))
or_value basics.Int t k l m z v w h = absurd cc
or_value basics.Text t k l m z v w h = absurd cc

less_value : (b : Basic) → takes groups.Order (Some b) ≡ true → (k l m : Constant) → IsValueOf b k → IsValueOf b l → constants.binary operators.Less k l ≡ Some m → IsValueOf basics.Bool m
less_value basics.Bool t k l m v w h = absurd cc
less_value basics.Int t k l m v w h = with_ints k l v w (λ x y e d. truth_value (constants.int_less x y) m (at_constants operators.Less k l (constant.Int x) (constant.Int y) m e d h))
less_value basics.Text t k l m v w h = with_texts k l v w (λ x y e d. truth_value (constants.text_less x y) m (at_constants operators.Less k l (constant.Text x) (constant.Text y) m e d h))

less_equal_value : (b : Basic) → takes groups.Order (Some b) ≡ true → (k l m : Constant) → IsValueOf b k → IsValueOf b l → constants.binary operators.LessEqual k l ≡ Some m → IsValueOf basics.Bool m
less_equal_value basics.Bool t k l m v w h = absurd cc
less_equal_value basics.Int t k l m v w h = with_ints k l v w (λ x y e d. truth_value (not (constants.int_less y x)) m (at_constants operators.LessEqual k l (constant.Int x) (constant.Int y) m e d h))
less_equal_value basics.Text t k l m v w h = with_texts k l v w (λ x y e d. truth_value (not (constants.text_less y x)) m (at_constants operators.LessEqual k l (constant.Text x) (constant.Text y) m e d h))

greater_value : (b : Basic) → takes groups.Order (Some b) ≡ true → (k l m : Constant) → IsValueOf b k → IsValueOf b l → constants.binary operators.Greater k l ≡ Some m → IsValueOf basics.Bool m
greater_value basics.Bool t k l m v w h = absurd cc
greater_value basics.Int t k l m v w h = with_ints k l v w (λ x y e d. truth_value (constants.int_less y x) m (at_constants operators.Greater k l (constant.Int x) (constant.Int y) m e d h))
greater_value basics.Text t k l m v w h = with_texts k l v w (λ x y e d. truth_value (constants.text_less y x) m (at_constants operators.Greater k l (constant.Text x) (constant.Text y) m e d h))

greater_equal_value : (b : Basic) → takes groups.Order (Some b) ≡ true → (k l m : Constant) → IsValueOf b k → IsValueOf b l → constants.binary operators.GreaterEqual k l ≡ Some m → IsValueOf basics.Bool m
greater_equal_value basics.Bool t k l m v w h = absurd cc
greater_equal_value basics.Int t k l m v w h = with_ints k l v w (λ x y e d. truth_value (not (constants.int_less x y)) m (at_constants operators.GreaterEqual k l (constant.Int x) (constant.Int y) m e d h))
greater_equal_value basics.Text t k l m v w h = with_texts k l v w (λ x y e d. truth_value (not (constants.text_less x y)) m (at_constants operators.GreaterEqual k l (constant.Text x) (constant.Text y) m e d h))

equal_value : (b : Basic) (k l m : Constant) → IsValueOf b k → IsValueOf b l → constants.binary operators.Equal k l ≡ Some m → IsValueOf basics.Bool m
equal_value basics.Bool k l m v w h = with_bools k l v w (λ x y e d. truth_value (constants.bool_same x y) m (at_constants operators.Equal k l (constant.Bool x) (constant.Bool y) m e d h))
equal_value basics.Int k l m v w h = with_ints k l v w (λ x y e d. truth_value (constants.int_same x y) m (at_constants operators.Equal k l (constant.Int x) (constant.Int y) m e d h))
equal_value basics.Text k l m v w h = with_texts k l v w (λ x y e d. truth_value (constants.text_same x y) m (at_constants operators.Equal k l (constant.Text x) (constant.Text y) m e d h))

not_equal_value : (b : Basic) (k l m : Constant) → IsValueOf b k → IsValueOf b l → constants.binary operators.NotEqual k l ≡ Some m → IsValueOf basics.Bool m
not_equal_value basics.Bool k l m v w h = with_bools k l v w (λ x y e d. truth_value (not (constants.bool_same x y)) m (at_constants operators.NotEqual k l (constant.Bool x) (constant.Bool y) m e d h))
not_equal_value basics.Int k l m v w h = with_ints k l v w (λ x y e d. truth_value (not (constants.int_same x y)) m (at_constants operators.NotEqual k l (constant.Int x) (constant.Int y) m e d h))
not_equal_value basics.Text k l m v w h = with_texts k l v w (λ x y e d. truth_value (not (constants.text_same x y)) m (at_constants operators.NotEqual k l (constant.Text x) (constant.Text y) m e d h))

-- what lies under two values that have something in common

pub under_untyped : {T : Type 0} (rules : TypeRules T) (b : Basic) → basic_under rules (untyped b) ≡ Some b
under_untyped rules basics.Bool = refl
under_untyped rules basics.Int = refl
under_untyped rules basics.Text = refl

at_type : {T : Type 0} (rules : TypeRules T) (v w : ValueType T) (u : Option Basic) → v ≡ w → basic_under rules v ≡ u → basic_under rules w ≡ u
at_type {T = T} rules v w u e p = let P : ValueType T → Type 0 = λ x. basic_under rules x ≡ u in subst P e p

at_form : {T : Type 0} (rules : TypeRules T) (t : T) (f : TypeForm T) (u : Option Basic) → rules.form t ≡ f → form_basic (rules.form t) ≡ u → form_basic f ≡ u
at_form {T = T} rules t f u e p = let P : TypeForm T → Type 0 = λ g. form_basic g ≡ u in subst P e p

assigned_alike : {T : Type 0} (rules : TypeRules T) (keeps : KeepsKinds rules) (v : ValueType T) (t : T) (b c : Basic) → IsAssignable rules v t
    → basic_under rules v ≡ Some b → form_basic (rules.form t) ≡ Some c → b ≡ c
assigned_alike rules keeps v t b c (by_type s k h) p q = keeps.assignable_alike s t b c h (at_type rules v (types.Typed s) (Some b) k p) q
assigned_alike rules keeps v t b c (nil_to_pointer base k e) p q = let none : None ≡ Some b = at_type rules v types.Nil (Some b) k p in absurd cc
assigned_alike rules keeps v t b c (nil_to_interface k e) p q = let none : None ≡ Some b = at_type rules v types.Nil (Some b) k p in absurd cc
assigned_alike rules keeps v t b c (by_kind d k e) p q =
    let left : Some d ≡ Some b = sym (under_untyped rules d) ∙ at_type rules v (untyped d) (Some b) k p in
    let right : Some d ≡ Some c = at_form rules t (forms.Basic d) (Some c) e q in
    cc
assigned_alike rules keeps v t b c (by_default_type d k e h) p q = let none : None ≡ Some c = at_form rules t forms.Interface (Some c) e q in absurd cc

itself_alike : {T : Type 0} (rules : TypeRules T) (v w both : ValueType T) (b c : Basic) → v ≡ w → both ≡ w → basic_under rules v ≡ Some c → basic_under rules both ≡ Some b → c ≡ b
itself_alike rules v w both b c e g p q =
    let left : basic_under rules w ≡ Some c = at_type rules v w (Some c) e p in
    let right : basic_under rules w ≡ Some b = at_type rules both w (Some b) g q in
    let same : Some c ≡ Some b = sym left ∙ right in
    cc

first_alike : {T : Type 0} (rules : TypeRules T) (keeps : KeepsKinds rules) (v w both : ValueType T) (b c : Basic) → HaveCommon rules v w both
    → basic_under rules v ≡ Some c → basic_under rules both ≡ Some b → c ≡ b
first_alike rules keeps v w both b c (of_one_type s t e f h g) p q = itself_alike rules v (types.Typed s) both b c e g p q
first_alike rules keeps v w both b c (first_takes t n f a g) p q = assigned_alike rules keeps v t c b a p (at_type rules both (types.Typed t) (Some b) g q)
first_alike rules keeps v w both b c (second_takes s e n a g) p q = itself_alike rules v (types.Typed s) both b c e g p q
first_alike rules keeps v w both b c (of_one_kind d e f g) p q = itself_alike rules v (untyped d) both b c e g p q

second_alike : {T : Type 0} (rules : TypeRules T) (keeps : KeepsKinds rules) (v w both : ValueType T) (b c : Basic) → HaveCommon rules v w both
    → basic_under rules w ≡ Some c → basic_under rules both ≡ Some b → c ≡ b
second_alike rules keeps v w both b c (of_one_type s t e f h g) p q =
    let right : form_basic (rules.form t) ≡ Some c = at_type rules w (types.Typed t) (Some c) f p in
    let left : form_basic (rules.form s) ≡ Some b = at_type rules both (types.Typed s) (Some b) g q in
    let same : Some b ≡ Some c = sym left ∙ (keeps.identical_alike s t h ∙ right) in
    cc
second_alike rules keeps v w both b c (first_takes t n f a g) p q = itself_alike rules w (types.Typed t) both b c f g p q
second_alike rules keeps v w both b c (second_takes s e n a g) p q = assigned_alike rules keeps w s c b a p (at_type rules both (types.Typed s) (Some b) g q)
second_alike rules keeps v w both b c (of_one_kind d e f g) p q = itself_alike rules w (untyped d) both b c f g p q

compared_alike : {T : Type 0} (rules : TypeRules T) (keeps : KeepsKinds rules) (v w : ValueType T) (b c : Basic) → AreComparable rules v w
    → basic_under rules v ≡ Some b → basic_under rules w ≡ Some c → b ≡ c
compared_alike rules keeps v w b c (first_to_second t k a) p q = assigned_alike rules keeps v t b c a p (at_type rules w (types.Typed t) (Some c) k q)
compared_alike rules keeps v w b c (second_to_first s k a) p q = sym (assigned_alike rules keeps w s c b a q (at_type rules v (types.Typed s) (Some b) k p))
compared_alike rules keeps v w b c (both_untyped d k l) p q = itself_alike rules v (untyped d) w c b k l p q

-- what operators give

moved : (b c : Basic) (k : Constant) → b ≡ c → IsValueOf b k → IsValueOf c k
moved b c k e h = let P : Basic → Type 0 = λ d. IsValueOf d k in subst P e h

not_constant : {T : Type 0} (rules : TypeRules T) (o : Operand T) → o.constant ≡ None → IsConstantOfItsType rules o
not_constant rules o e = let P : Option Constant → Type 0 = λ c. IsOfType rules o.value_type c in subst P (sym e) tt

computed_whole : {T : Type 0} (rules : TypeRules T) (v : ValueType T) (c : Option Constant) (o : Operand T) (b : Basic) → basic_under rules v ≡ Some b
    → ((m : Constant) → c ≡ Some m → IsValueOf b m) → computed v c ≡ Ok o → IsConstantOfItsType rules o
computed_whole rules v None o b u f h = absurd cc
computed_whole {T = T} rules v (Some m) o b u f h =
    let e : value v (Some m) ≡ o = cc in
    let P : Operand T → Type 0 = λ z. IsConstantOfItsType rules z in
    subst P e (b, (u, f m refl))

takes_none : (g : Group) → takes g None ≡ false
takes_none groups.Logic = refl
takes_none groups.Sum = refl
takes_none groups.Arithmetic = refl
takes_none groups.Equality = refl
takes_none groups.Order = refl
takes_none groups.Bits = refl

pub unless_both : {A : Type 0} (b : Bool) (r : Result A Rule) (e : Rule) (o : A) → (if b then Err e else r) ≡ Ok o → (b ≡ false) × (r ≡ Ok o)
unless_both true r e o h = absurd cc
unless_both false r e o h = (refl, h)

made_whole : {T : Type 0} (rules : TypeRules T) (keeps : KeepsKinds rules) (op : Operator)
    → ((b : Basic) → takes (group op) (Some b) ≡ true → (k l m : Constant) → (divides op && constants.is_zero l) ≡ false → IsValueOf b k → IsValueOf b l → constants.binary op k l ≡ Some m → IsValueOf b m)
    → (v w both : ValueType T) (u : Option Basic) (x y : Option Constant) (o : Operand T) → HaveCommon rules v w both → basic_under rules both ≡ u → takes (group op) u ≡ true
    → (divides op && is_some_zero y) ≡ false → IsOfType rules v x → IsOfType rules w y → with_constants both op x y ≡ Ok o → IsConstantOfItsType rules o
made_whole rules keeps op makes v w both u None y o have e t z p q h = not_constant rules o (constant_of both None o h)
made_whole rules keeps op makes v w both u (Some k) None o have e t z p q h = not_constant rules o (constant_of both None o h)
made_whole rules keeps op makes v w both None (Some k) (Some l) o have e t z p q h = let never = takes_none (group op) in absurd cc
made_whole rules keeps op makes v w both (Some b) (Some k) (Some l) o have e t z p q h =
    let left = moved p.0 b k (first_alike rules keeps v w both b p.0 have p.1.0 e) p.1.1 in
    let right = moved q.0 b l (second_alike rules keeps v w both b q.0 have q.1.0 e) q.1.1 in
    computed_whole rules both (constants.binary op k l) o b e (λ m g. makes b t k l m z left right g) h

arithmetic_in : {T : Type 0} (rules : TypeRules T) (keeps : KeepsKinds rules) (op : Operator)
    → ((b : Basic) → takes (group op) (Some b) ≡ true → (k l m : Constant) → (divides op && constants.is_zero l) ≡ false → IsValueOf b k → IsValueOf b l → constants.binary op k l ≡ Some m → IsValueOf b m)
    → (v w : ValueType T) (n : Option (ValueType T)) (x y : Option Constant) (o : Operand T) → common rules v w ≡ n → IsOfType rules v x → IsOfType rules w y
    → arithmetic rules op n x y ≡ Ok o → IsConstantOfItsType rules o
arithmetic_in rules keeps op makes v w None x y o e p q h = absurd cc
arithmetic_in rules keeps op makes v w (Some both) x y o e p q h =
    let g = if_ok (takes (group op) (basic_under rules both)) (if divides op && is_some_zero y then Err Y7 else with_constants both op x y) Y3 o h in
    let r = unless_both (divides op && is_some_zero y) (with_constants both op x y) Y7 o g.1 in
    made_whole rules keeps op makes v w both (basic_under rules both) x y o (shared rules v w both e) refl g.0 r.0 p q r.1

arithmetic_whole : {T : Type 0} (rules : TypeRules T) (keeps : KeepsKinds rules) (op : Operator)
    → ((b : Basic) → takes (group op) (Some b) ≡ true → (k l m : Constant) → (divides op && constants.is_zero l) ≡ false → IsValueOf b k → IsValueOf b l → constants.binary op k l ≡ Some m → IsValueOf b m)
    → (a b o : Operand T) → IsConstantOfItsType rules a → IsConstantOfItsType rules b → arithmetic rules op (common rules a.value_type b.value_type) a.constant b.constant ≡ Ok o → IsConstantOfItsType rules o
arithmetic_whole rules keeps op makes a b o p q h =
    arithmetic_in rules keeps op makes a.value_type b.value_type (common rules a.value_type b.value_type) a.constant b.constant o refl p q h

compared_whole : {T : Type 0} (rules : TypeRules T) (keeps : KeepsKinds rules) (op : Operator)
    → ((b : Basic) → takes (group op) (Some b) ≡ true → (k l m : Constant) → IsValueOf b k → IsValueOf b l → constants.binary op k l ≡ Some m → IsValueOf basics.Bool m)
    → (v w both : ValueType T) (u : Option Basic) (x y : Option Constant) (o : Operand T) → HaveCommon rules v w both → basic_under rules both ≡ u → takes (group op) u ≡ true
    → IsOfType rules v x → IsOfType rules w y → with_constants types.UntypedBool op x y ≡ Ok o → IsConstantOfItsType rules o
compared_whole rules keeps op makes v w both u None y o have e t p q h = not_constant rules o (constant_of types.UntypedBool None o h)
compared_whole rules keeps op makes v w both u (Some k) None o have e t p q h = not_constant rules o (constant_of types.UntypedBool None o h)
compared_whole rules keeps op makes v w both None (Some k) (Some l) o have e t p q h = let never = takes_none (group op) in absurd cc
compared_whole rules keeps op makes v w both (Some b) (Some k) (Some l) o have e t p q h =
    let left = moved p.0 b k (first_alike rules keeps v w both b p.0 have p.1.0 e) p.1.1 in
    let right = moved q.0 b l (second_alike rules keeps v w both b q.0 have q.1.0 e) q.1.1 in
    computed_whole rules types.UntypedBool (constants.binary op k l) o basics.Bool refl (λ m g. makes b t k l m left right g) h

ordered_in : {T : Type 0} (rules : TypeRules T) (keeps : KeepsKinds rules) (op : Operator)
    → ((b : Basic) → takes (group op) (Some b) ≡ true → (k l m : Constant) → IsValueOf b k → IsValueOf b l → constants.binary op k l ≡ Some m → IsValueOf basics.Bool m)
    → (v w : ValueType T) (n : Option (ValueType T)) (x y : Option Constant) (o : Operand T) → common rules v w ≡ n → IsOfType rules v x → IsOfType rules w y
    → ordered rules op n x y ≡ Ok o → IsConstantOfItsType rules o
ordered_in rules keeps op makes v w None x y o e p q h = absurd cc
ordered_in rules keeps op makes v w (Some both) x y o e p q h =
    let g = if_ok (takes (group op) (basic_under rules both)) (with_constants types.UntypedBool op x y) Y3 o h in
    compared_whole rules keeps op makes v w both (basic_under rules both) x y o (shared rules v w both e) refl g.0 p q g.1

ordered_whole : {T : Type 0} (rules : TypeRules T) (keeps : KeepsKinds rules) (op : Operator)
    → ((b : Basic) → takes (group op) (Some b) ≡ true → (k l m : Constant) → IsValueOf b k → IsValueOf b l → constants.binary op k l ≡ Some m → IsValueOf basics.Bool m)
    → (a b o : Operand T) → IsConstantOfItsType rules a → IsConstantOfItsType rules b → ordered rules op (common rules a.value_type b.value_type) a.constant b.constant ≡ Ok o → IsConstantOfItsType rules o
ordered_whole rules keeps op makes a b o p q h =
    ordered_in rules keeps op makes a.value_type b.value_type (common rules a.value_type b.value_type) a.constant b.constant o refl p q h

equal_constants : {T : Type 0} (rules : TypeRules T) (keeps : KeepsKinds rules) (op : Operator)
    → ((b : Basic) (k l m : Constant) → IsValueOf b k → IsValueOf b l → constants.binary op k l ≡ Some m → IsValueOf basics.Bool m)
    → (v w : ValueType T) (x y : Option Constant) (o : Operand T) → AreComparable rules v w → IsOfType rules v x → IsOfType rules w y
    → with_constants types.UntypedBool op x y ≡ Ok o → IsConstantOfItsType rules o
equal_constants rules keeps op makes v w None y o have p q h = not_constant rules o (constant_of types.UntypedBool None o h)
equal_constants rules keeps op makes v w (Some k) None o have p q h = not_constant rules o (constant_of types.UntypedBool None o h)
equal_constants rules keeps op makes v w (Some k) (Some l) o have p q h =
    let right = moved q.0 p.0 l (sym (compared_alike rules keeps v w p.0 q.0 have p.1.0 q.1.0)) q.1.1 in
    computed_whole rules types.UntypedBool (constants.binary op k l) o basics.Bool refl (λ m g. makes p.0 k l m p.1.1 right g) h

equal_whole : {T : Type 0} (rules : TypeRules T) (keeps : KeepsKinds rules) (op : Operator)
    → ((b : Basic) (k l m : Constant) → IsValueOf b k → IsValueOf b l → constants.binary op k l ≡ Some m → IsValueOf basics.Bool m)
    → (a b o : Operand T) → IsConstantOfItsType rules a → IsConstantOfItsType rules b → equated op (comparable rules a.value_type b.value_type) a.constant b.constant ≡ Ok o → IsConstantOfItsType rules o
equal_whole rules keeps op makes a b o p q h =
    let g = if_ok (comparable rules a.value_type b.value_type) (with_constants types.UntypedBool op a.constant b.constant) Y3 o h in
    equal_constants rules keeps op makes a.value_type b.value_type a.constant b.constant o (compared rules a.value_type b.value_type g.0) p q g.1

pub of_two : {T : Type 0} (rules : TypeRules T) (op : Operator) (a b o : Operand T) → KeepsKinds rules → IsConstantOfItsType rules a → IsConstantOfItsType rules b → binary_operand rules op a b ≡ Ok o → IsConstantOfItsType rules o
of_two rules operators.Plus a b o keeps p q h = arithmetic_whole rules keeps operators.Plus sum_value a b o p q h
of_two rules operators.Minus a b o keeps p q h = arithmetic_whole rules keeps operators.Minus difference_value a b o p q h
of_two rules operators.Star a b o keeps p q h = arithmetic_whole rules keeps operators.Star product_value a b o p q h
of_two rules operators.Slash a b o keeps p q h = arithmetic_whole rules keeps operators.Slash quotient_value a b o p q h
of_two rules operators.Percent a b o keeps p q h = arithmetic_whole rules keeps operators.Percent remainder_value a b o p q h
of_two rules operators.LogicalAnd a b o keeps p q h = arithmetic_whole rules keeps operators.LogicalAnd and_value a b o p q h
of_two rules operators.LogicalOr a b o keeps p q h = arithmetic_whole rules keeps operators.LogicalOr or_value a b o p q h
of_two rules operators.Less a b o keeps p q h = ordered_whole rules keeps operators.Less less_value a b o p q h
of_two rules operators.LessEqual a b o keeps p q h = ordered_whole rules keeps operators.LessEqual less_equal_value a b o p q h
of_two rules operators.Greater a b o keeps p q h = ordered_whole rules keeps operators.Greater greater_value a b o p q h
of_two rules operators.GreaterEqual a b o keeps p q h = ordered_whole rules keeps operators.GreaterEqual greater_equal_value a b o p q h
of_two rules operators.Equal a b o keeps p q h = equal_whole rules keeps operators.Equal equal_value a b o p q h
of_two rules operators.NotEqual a b o keeps p q h = equal_whole rules keeps operators.NotEqual not_equal_value a b o p q h
of_two rules _ a b o keeps p q h = absurd cc

signed_constants : {T : Type 0} (rules : TypeRules T) (op : Operator) (taken : Basic)
    → ((k m : Constant) → IsValueOf taken k → constants.unary op k ≡ Some m → IsValueOf taken m)
    → (v : ValueType T) (u : Option Basic) (x : Option Constant) (o : Operand T) → basic_under rules v ≡ u → is_over taken u ≡ true → IsOfType rules v x → signed op v x ≡ Ok o → IsConstantOfItsType rules o
signed_constants rules op taken makes v u None o e t p h = not_constant rules o (constant_of v None o h)
signed_constants rules op taken makes v None (Some k) o e t p h = absurd cc
signed_constants rules op taken makes v (Some b) (Some k) o e t p h =
    let known : Some p.0 ≡ Some b = sym p.1.0 ∙ e in
    let kind : p.0 ≡ taken = (let same : p.0 ≡ b = cc in same ∙ sym (basic_same taken b t)) in
    computed_whole rules v (constants.unary op k) o taken (p.1.0 ∙ ap Some kind) (λ m g. makes k m (moved p.0 taken k kind p.1.1) g) h

signed_whole : {T : Type 0} (rules : TypeRules T) (op : Operator) (taken : Basic)
    → ((k m : Constant) → IsValueOf taken k → constants.unary op k ≡ Some m → IsValueOf taken m)
    → (a o : Operand T) → IsConstantOfItsType rules a → signed_over rules taken op a ≡ Ok o → IsConstantOfItsType rules o
signed_whole rules op taken makes a o p h =
    let g = if_ok (is_over taken (basic_under rules a.value_type)) (signed op a.value_type a.constant) Y3 o h in
    signed_constants rules op taken makes a.value_type (basic_under rules a.value_type) a.constant o refl g.0 p g.1

itself_value : (z : ℤ) (m : Constant) → IsValueOf basics.Int (constant.Int z) → Some (constant.Int z) ≡ Some m → IsValueOf basics.Int m
itself_value z m v h = let e : constant.Int z ≡ m = cc in let P : Constant → Type 0 = IsValueOf basics.Int in subst P e v

plus_value : (k m : Constant) → IsValueOf basics.Int k → constants.unary operators.Plus k ≡ Some m → IsValueOf basics.Int m
plus_value (constant.Int z) m v h = itself_value z m v h
plus_value (constant.Bool b) m v h = absurd v
plus_value (constant.Text s) m v h = absurd v
plus_value constant.Unknown m v h = absurd v

minus_value : (k m : Constant) → IsValueOf basics.Int k → constants.unary operators.Minus k ≡ Some m → IsValueOf basics.Int m
minus_value (constant.Int z) m v h = ranged_value (neg_ℤ z) m h
minus_value (constant.Bool b) m v h = absurd v
minus_value (constant.Text s) m v h = absurd v
minus_value constant.Unknown m v h = absurd v

not_value : (k m : Constant) → IsValueOf basics.Bool k → constants.unary operators.Not k ≡ Some m → IsValueOf basics.Bool m
not_value (constant.Bool b) m v h = truth_value (not b) m h
not_value (constant.Int z) m v h = absurd v
not_value (constant.Text s) m v h = absurd v
not_value constant.Unknown m v h = absurd v

-- the variable behind a pointer
abbrev variable_of : {T : Type 0} → T → Operand T
variable_of t = record { value_type = types.Typed t; constant = None; addressable = true }

pointed_constant : {T : Type 0} (f : TypeForm T) (o : Operand T) → pointed f ≡ Ok o → o.constant ≡ None
pointed_constant forms.Nothing o h = absurd cc
pointed_constant (forms.Basic b) o h = absurd cc
pointed_constant {T = T} (forms.Pointer t) o h =
    let e : variable_of t ≡ o = cc in ap (λ (z : Operand T). z.constant) (sym e)
pointed_constant forms.Struct o h = absurd cc
pointed_constant forms.Interface o h = absurd cc

indirect_constant : {T : Type 0} (rules : TypeRules T) (v : ValueType T) (o : Operand T) → indirection rules v ≡ Ok o → o.constant ≡ None
indirect_constant rules (types.Typed t) o h = pointed_constant (rules.form t) o h
indirect_constant rules types.UntypedInt o h = absurd cc
indirect_constant rules types.UntypedText o h = absurd cc
indirect_constant rules types.UntypedBool o h = absurd cc
indirect_constant rules types.Nil o h = absurd cc

address_constant : {T : Type 0} (rules : TypeRules T) (may : Bool) (v : ValueType T) (o : Operand T) → address rules may v ≡ Ok o → o.constant ≡ None
address_constant rules may (types.Typed t) o h =
    let g = if_ok may (accepted (value (types.Typed (rules.pointer_to t)) None)) Y3 o h in constant_of (types.Typed (rules.pointer_to t)) None o g.1
address_constant rules may types.UntypedInt o h = absurd cc
address_constant rules may types.UntypedText o h = absurd cc
address_constant rules may types.UntypedBool o h = absurd cc
address_constant rules may types.Nil o h = absurd cc

pub of_one : {T : Type 0} (rules : TypeRules T) (op : Operator) (literal : Bool) (a o : Operand T) → IsConstantOfItsType rules a → unary_operand rules op literal a ≡ Ok o → IsConstantOfItsType rules o
of_one rules operators.Plus literal a o p h = signed_whole rules operators.Plus basics.Int plus_value a o p h
of_one rules operators.Minus literal a o p h = signed_whole rules operators.Minus basics.Int minus_value a o p h
of_one rules operators.Not literal a o p h = signed_whole rules operators.Not basics.Bool not_value a o p h
of_one rules operators.Star literal a o p h = not_constant rules o (indirect_constant rules a.value_type o h)
of_one rules operators.And literal a o p h = not_constant rules o (address_constant rules (literal || a.addressable) a.value_type o h)
of_one rules _ literal a o p h = absurd cc
