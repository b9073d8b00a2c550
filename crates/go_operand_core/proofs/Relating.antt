-- Assignability, common types and comparability are the relations of the Go specification.
use Rattle.std.proofs.Common.{◌≡◌, Bool, true, false, ◌||◌, Some, None, if◌then◌else◌, refl, sym, ap, subst, ◌∙◌, ◌⊎◌, inl, inr}
use Rattle.std.proofs.lemmas.Bool.{or_cases}
use Rattle.go_term_core.specs.declared.term.Basic.{Basic}
use Rattle.go_term_core.specs.declared.term.Basic.TheVariants as basics
use Rattle.go_constant_core.specs.declared.values.Constant.{Constant}
use Rattle.go_constant_core.specs.declared.values.Constant.TheVariants as constants
use Rattle.go_operand_core.specs.declared.types.ValueType.{ValueType}
use Rattle.go_operand_core.specs.declared.types.ValueType.TheVariants as types
use Rattle.go_operand_core.specs.declared.types.TypeForm.{TypeForm}
use Rattle.go_operand_core.specs.declared.types.TypeForm.TheVariants as forms
use Rattle.go_operand_core.specs.TypeRules.{TypeRules}
use Rattle.go_operand_core.specs.Values.{is_basic, untyped, basic_type}
use Rattle.go_operand_core.specs.Assign.{takes_nil, takes_untyped, untyped_assignable, assignable, taken, common, common_untyped, comparable, comparable_untyped}
use Rattle.go_operand_core.specs.Relations.{IsAssignable, by_type, nil_to_pointer, nil_to_interface, by_kind, by_default_type, HasNoType, HaveCommon, of_one_type, first_takes, second_takes, of_one_kind, AreComparable, first_to_second, second_to_first, both_untyped, IsValueOf}

pub basic_same : (b c : Basic) → is_basic b c ≡ true → b ≡ c
basic_same basics.Bool basics.Bool h = refl
basic_same basics.Bool basics.Int h = absurd cc
basic_same basics.Bool basics.Text h = absurd cc
basic_same basics.Int basics.Bool h = absurd cc
basic_same basics.Int basics.Int h = refl
basic_same basics.Int basics.Text h = absurd cc
basic_same basics.Text basics.Bool h = absurd cc
basic_same basics.Text basics.Int h = absurd cc
basic_same basics.Text basics.Text h = refl

pub basic_itself : (b : Basic) → is_basic b b ≡ true
basic_itself basics.Bool = refl
basic_itself basics.Int = refl
basic_itself basics.Text = refl

untyped_is : {T : Type 0} (rules : TypeRules T) (b : Basic) (t : T) → assignable rules (untyped b) t ≡ untyped_assignable rules b t
untyped_is rules basics.Bool t = refl
untyped_is rules basics.Int t = refl
untyped_is rules basics.Text t = refl

kind_by_form : {T : Type 0} (rules : TypeRules T) (b : Basic) (t : T) (f : TypeForm T) (v : ValueType T) → rules.form t ≡ f → v ≡ untyped b
    → takes_untyped b (rules.assignable (basic_type rules b) t) f ≡ true → IsAssignable rules v t
kind_by_form rules b t forms.Nothing v e k h = absurd cc
kind_by_form rules b t (forms.Basic c) v e k h = by_kind b k (e ∙ ap forms.Basic (sym (basic_same b c h)))
kind_by_form rules b t (forms.Pointer u) v e k h = absurd cc
kind_by_form rules b t forms.Struct v e k h = absurd cc
kind_by_form rules b t forms.Interface v e k h = by_default_type b k e h

nil_by_form : {T : Type 0} (rules : TypeRules T) (t : T) (f : TypeForm T) → rules.form t ≡ f → takes_nil f ≡ true → IsAssignable rules types.Nil t
nil_by_form rules t forms.Nothing e h = absurd cc
nil_by_form rules t (forms.Basic c) e h = absurd cc
nil_by_form rules t (forms.Pointer u) e h = nil_to_pointer u refl e
nil_by_form rules t forms.Struct e h = absurd cc
nil_by_form rules t forms.Interface e h = nil_to_interface refl e

pub assigned : {T : Type 0} (rules : TypeRules T) (v : ValueType T) (t : T) → assignable rules v t ≡ true → IsAssignable rules v t
assigned rules (types.Typed s) t h = by_type s refl h
assigned rules types.UntypedInt t h = kind_by_form rules basics.Int t (rules.form t) types.UntypedInt refl refl h
assigned rules types.UntypedText t h = kind_by_form rules basics.Text t (rules.form t) types.UntypedText refl refl h
assigned rules types.UntypedBool t h = kind_by_form rules basics.Bool t (rules.form t) types.UntypedBool refl refl h
assigned rules types.Nil t h = nil_by_form rules t (rules.form t) refl h

nil_taken : {T : Type 0} (rules : TypeRules T) (v : ValueType T) (t : T) (f : TypeForm T) → v ≡ types.Nil → rules.form t ≡ f → takes_nil f ≡ true → assignable rules v t ≡ true
nil_taken {T = T} rules v t f k e h =
    let P : ValueType T → Type 0 = λ w. assignable rules w t ≡ true in
    let Q : TypeForm T → Type 0 = λ g. takes_nil g ≡ true in
    subst P (sym k) (subst Q (sym e) h)

kind_taken : {T : Type 0} (rules : TypeRules T) (b : Basic) (v : ValueType T) (t : T) (f : TypeForm T) → v ≡ untyped b → rules.form t ≡ f
    → takes_untyped b (rules.assignable (basic_type rules b) t) f ≡ true → assignable rules v t ≡ true
kind_taken {T = T} rules b v t f k e h =
    let P : ValueType T → Type 0 = λ w. assignable rules w t ≡ true in
    let Q : TypeForm T → Type 0 = λ g. takes_untyped b (rules.assignable (basic_type rules b) t) g ≡ true in
    subst P (sym k) (untyped_is rules b t ∙ subst Q (sym e) h)

pub assigns : {T : Type 0} (rules : TypeRules T) (v : ValueType T) (t : T) → IsAssignable rules v t → assignable rules v t ≡ true
assigns {T = T} rules v t (by_type s k h) = let P : ValueType T → Type 0 = λ w. assignable rules w t ≡ true in subst P (sym k) h
assigns {T = T} rules v t (nil_to_pointer base k e) = nil_taken rules v t (forms.Pointer base) k e refl
assigns {T = T} rules v t (nil_to_interface k e) = nil_taken rules v t forms.Interface k e refl
assigns {T = T} rules v t (by_kind b k e) = kind_taken rules b v t (forms.Basic b) k e (basic_itself b)
assigns {T = T} rules v t (by_default_type b k e h) = kind_taken rules b v t forms.Interface k e h

either : {T : Type 0} (rules : TypeRules T) (s t : T) → ((rules.assignable s t ≡ true) ⊎ (rules.assignable t s ≡ true)) → AreComparable rules (types.Typed s) (types.Typed t)
either rules s t (inl h) = first_to_second t refl (by_type s refl h)
either rules s t (inr h) = second_to_first s refl (by_type t refl h)

kind_compares : {T : Type 0} (rules : TypeRules T) (b : Basic) (v w : ValueType T) → v ≡ untyped b → comparable_untyped rules b w ≡ true → AreComparable rules v w
kind_compares rules b v (types.Typed t) k h = first_to_second t refl (kind_by_form rules b t (rules.form t) v refl k h)
kind_compares rules b v types.UntypedInt k h = both_untyped b k (ap untyped (sym (basic_same b basics.Int h)))
kind_compares rules b v types.UntypedText k h = both_untyped b k (ap untyped (sym (basic_same b basics.Text h)))
kind_compares rules b v types.UntypedBool k h = both_untyped b k (ap untyped (sym (basic_same b basics.Bool h)))
kind_compares rules b v types.Nil k h = absurd cc

pub compared : {T : Type 0} (rules : TypeRules T) (v w : ValueType T) → comparable rules v w ≡ true → AreComparable rules v w
compared rules (types.Typed s) (types.Typed t) h = either rules s t (or_cases (rules.assignable s t) (rules.assignable t s) h)
compared rules (types.Typed s) types.UntypedInt h = second_to_first s refl (assigned rules types.UntypedInt s h)
compared rules (types.Typed s) types.UntypedText h = second_to_first s refl (assigned rules types.UntypedText s h)
compared rules (types.Typed s) types.UntypedBool h = second_to_first s refl (assigned rules types.UntypedBool s h)
compared rules (types.Typed s) types.Nil h = second_to_first s refl (assigned rules types.Nil s h)
compared rules types.UntypedInt w h = kind_compares rules basics.Int types.UntypedInt w refl h
compared rules types.UntypedText w h = kind_compares rules basics.Text types.UntypedText w refl h
compared rules types.UntypedBool w h = kind_compares rules basics.Bool types.UntypedBool w refl h
compared rules types.Nil (types.Typed t) h = first_to_second t refl (assigned rules types.Nil t h)
compared rules types.Nil types.UntypedInt h = absurd cc
compared rules types.Nil types.UntypedText h = absurd cc
compared rules types.Nil types.UntypedBool h = absurd cc
compared rules types.Nil types.Nil h = absurd cc

pub left_or : (a b : Bool) → a ≡ true → (a || b) ≡ true
left_or true b h = refl
left_or false b h = absurd cc

pub right_or : (a b : Bool) → b ≡ true → (a || b) ≡ true
right_or true b h = refl
right_or false b h = h

beside_typed : {T : Type 0} (rules : TypeRules T) (v : ValueType T) (t : T) → assignable rules v t ≡ true → comparable rules v (types.Typed t) ≡ true
beside_typed rules (types.Typed s) t h = left_or (rules.assignable s t) (rules.assignable t s) h
beside_typed rules types.UntypedInt t h = h
beside_typed rules types.UntypedText t h = h
beside_typed rules types.UntypedBool t h = h
beside_typed rules types.Nil t h = h

typed_beside : {T : Type 0} (rules : TypeRules T) (s : T) (w : ValueType T) → assignable rules w s ≡ true → comparable rules (types.Typed s) w ≡ true
typed_beside rules s (types.Typed t) h = right_or (rules.assignable s t) (rules.assignable t s) h
typed_beside rules s types.UntypedInt h = h
typed_beside rules s types.UntypedText h = h
typed_beside rules s types.UntypedBool h = h
typed_beside rules s types.Nil h = h

kind_itself : {T : Type 0} (rules : TypeRules T) (b : Basic) → comparable rules (untyped b) (untyped b) ≡ true
kind_itself rules basics.Bool = refl
kind_itself rules basics.Int = refl
kind_itself rules basics.Text = refl

pub compares : {T : Type 0} (rules : TypeRules T) (v w : ValueType T) → AreComparable rules v w → comparable rules v w ≡ true
compares {T = T} rules v w (first_to_second t k a) =
    let P : ValueType T → Type 0 = λ x. comparable rules v x ≡ true in subst P (sym k) (beside_typed rules v t (assigns rules v t a))
compares {T = T} rules v w (second_to_first s k a) =
    let P : ValueType T → Type 0 = λ x. comparable rules x w ≡ true in subst P (sym k) (typed_beside rules s w (assigns rules w s a))
compares {T = T} rules v w (both_untyped b k l) =
    let P : ValueType T → Type 0 = λ x. comparable rules x w ≡ true in
    let Q : ValueType T → Type 0 = λ y. comparable rules (untyped b) y ≡ true in
    subst P (sym k) (subst Q (sym l) (kind_itself rules b))

pub if_some : {A : Type 0} (b : Bool) (x y : A) → (if b then Some x else None) ≡ Some y → (b ≡ true) × (y ≡ x)
if_some true x y h = (refl, cc)
if_some false x y h = absurd cc

some_if : {A : Type 0} (b : Bool) (x : A) → b ≡ true → (if b then Some x else None) ≡ Some x
some_if true x h = refl
some_if false x h = absurd cc

pub no_type : (T : Type 0) (b : Basic) → HasNoType {T = T} (untyped b)
no_type T basics.Bool = tt
no_type T basics.Int = tt
no_type T basics.Text = tt

takes_other : {T : Type 0} (rules : TypeRules T) (s : T) (w both : ValueType T) → HasNoType w → taken rules w s ≡ Some both → HaveCommon rules (types.Typed s) w both
takes_other rules s w both n h = let p = if_some (assignable rules w s) (types.Typed s) both h in second_takes s refl n (assigned rules w s p.0) p.1

one_kind : {T : Type 0} (rules : TypeRules T) (b c : Basic) (both : ValueType T) → (if is_basic b c then Some (untyped b) else None) ≡ Some both → HaveCommon rules (untyped b) (untyped c) both
one_kind rules b c both h = let p = if_some (is_basic b c) (untyped b) both h in of_one_kind b refl (ap untyped (sym (basic_same b c p.0))) p.1

kinds_share : {T : Type 0} (rules : TypeRules T) (b : Basic) (w both : ValueType T) → common_untyped rules b w ≡ Some both → HaveCommon rules (untyped b) w both
kinds_share rules b (types.Typed t) both h =
    let p = if_some (assignable rules (untyped b) t) (types.Typed t) both h in first_takes t (no_type _ b) refl (assigned rules (untyped b) t p.0) p.1
kinds_share rules b types.UntypedInt both h = one_kind rules b basics.Int both h
kinds_share rules b types.UntypedText both h = one_kind rules b basics.Text both h
kinds_share rules b types.UntypedBool both h = one_kind rules b basics.Bool both h
kinds_share rules b types.Nil both h = absurd cc

pub shared : {T : Type 0} (rules : TypeRules T) (v w both : ValueType T) → common rules v w ≡ Some both → HaveCommon rules v w both
shared rules (types.Typed s) (types.Typed t) both h = let p = if_some (rules.identical s t) (types.Typed s) both h in of_one_type s t refl refl p.0 p.1
shared rules (types.Typed s) types.UntypedInt both h = takes_other rules s types.UntypedInt both tt h
shared rules (types.Typed s) types.UntypedText both h = takes_other rules s types.UntypedText both tt h
shared rules (types.Typed s) types.UntypedBool both h = takes_other rules s types.UntypedBool both tt h
shared rules (types.Typed s) types.Nil both h = takes_other rules s types.Nil both tt h
shared rules types.UntypedInt w both h = kinds_share rules basics.Int w both h
shared rules types.UntypedText w both h = kinds_share rules basics.Text w both h
shared rules types.UntypedBool w both h = kinds_share rules basics.Bool w both h
shared rules types.Nil (types.Typed t) both h =
    let p = if_some (assignable rules types.Nil t) (types.Typed t) both h in first_takes t tt refl (assigned rules types.Nil t p.0) p.1
shared rules types.Nil types.UntypedInt both h = absurd cc
shared rules types.Nil types.UntypedText both h = absurd cc
shared rules types.Nil types.UntypedBool both h = absurd cc
shared rules types.Nil types.Nil both h = absurd cc

at_these : {T : Type 0} (rules : TypeRules T) (v v' w w' both both' : ValueType T) → v ≡ v' → w ≡ w' → both ≡ both' → common rules v' w' ≡ Some both' → common rules v w ≡ Some both
at_these {T = T} rules v v' w w' both both' e f g h =
    let P : ValueType T → Type 0 = λ x. common rules x w ≡ Some both in
    let Q : ValueType T → Type 0 = λ y. common rules v' y ≡ Some both in
    let R : ValueType T → Type 0 = λ z. common rules v' w' ≡ Some z in
    subst P (sym e) (subst Q (sym f) (subst R (sym g) h))

gives_way : {T : Type 0} (rules : TypeRules T) (v : ValueType T) (t : T) → HasNoType v → assignable rules v t ≡ true → common rules v (types.Typed t) ≡ Some (types.Typed t)
gives_way rules (types.Typed s) t n h = absurd n
gives_way rules types.UntypedInt t n h = some_if (assignable rules types.UntypedInt t) (types.Typed t) h
gives_way rules types.UntypedText t n h = some_if (assignable rules types.UntypedText t) (types.Typed t) h
gives_way rules types.UntypedBool t n h = some_if (assignable rules types.UntypedBool t) (types.Typed t) h
gives_way rules types.Nil t n h = some_if (assignable rules types.Nil t) (types.Typed t) h

stands : {T : Type 0} (rules : TypeRules T) (s : T) (w : ValueType T) → HasNoType w → assignable rules w s ≡ true → common rules (types.Typed s) w ≡ Some (types.Typed s)
stands rules s (types.Typed t) n h = absurd n
stands rules s types.UntypedInt n h = some_if (assignable rules types.UntypedInt s) (types.Typed s) h
stands rules s types.UntypedText n h = some_if (assignable rules types.UntypedText s) (types.Typed s) h
stands rules s types.UntypedBool n h = some_if (assignable rules types.UntypedBool s) (types.Typed s) h
stands rules s types.Nil n h = some_if (assignable rules types.Nil s) (types.Typed s) h

kind_shared : {T : Type 0} (rules : TypeRules T) (b : Basic) → common rules (untyped b) (untyped b) ≡ Some (untyped b)
kind_shared rules basics.Bool = refl
kind_shared rules basics.Int = refl
kind_shared rules basics.Text = refl

pub shares : {T : Type 0} (rules : TypeRules T) (v w both : ValueType T) → HaveCommon rules v w both → common rules v w ≡ Some both
shares rules v w both (of_one_type s t e f h g) =
    at_these rules v (types.Typed s) w (types.Typed t) both (types.Typed s) e f g (some_if (rules.identical s t) (types.Typed s) h)
shares rules v w both (first_takes t n f a g) =
    at_these rules v v w (types.Typed t) both (types.Typed t) refl f g (gives_way rules v t n (assigns rules v t a))
shares rules v w both (second_takes s e n a g) =
    at_these rules v (types.Typed s) w w both (types.Typed s) e refl g (stands rules s w n (assigns rules w s a))
shares rules v w both (of_one_kind b e f g) =
    at_these rules v (untyped b) w (untyped b) both (untyped b) e f g (kind_shared rules b)

same_values : (b c : Basic) (k : Constant) → IsValueOf b k → (is_basic b c ≡ true → IsValueOf c k) × (IsValueOf c k → is_basic b c ≡ true)
same_values basics.Bool basics.Bool k h = ((λ e. h), (λ r. refl))
same_values basics.Bool basics.Int (constants.Bool x) h = ((λ e. absurd cc), (λ r. absurd r))
same_values basics.Bool basics.Int (constants.Int x) h = absurd h
same_values basics.Bool basics.Int (constants.Text x) h = absurd h
same_values basics.Bool basics.Int constants.Unknown h = absurd h
same_values basics.Bool basics.Text (constants.Bool x) h = ((λ e. absurd cc), (λ r. absurd r))
same_values basics.Bool basics.Text (constants.Int x) h = absurd h
same_values basics.Bool basics.Text (constants.Text x) h = absurd h
same_values basics.Bool basics.Text constants.Unknown h = absurd h
same_values basics.Int basics.Bool (constants.Bool x) h = absurd h
same_values basics.Int basics.Bool (constants.Int x) h = ((λ e. absurd cc), (λ r. absurd r))
same_values basics.Int basics.Bool (constants.Text x) h = absurd h
same_values basics.Int basics.Bool constants.Unknown h = absurd h
same_values basics.Int basics.Int k h = ((λ e. h), (λ r. refl))
same_values basics.Int basics.Text (constants.Bool x) h = absurd h
same_values basics.Int basics.Text (constants.Int x) h = ((λ e. absurd cc), (λ r. absurd r))
same_values basics.Int basics.Text (constants.Text x) h = absurd h
same_values basics.Int basics.Text constants.Unknown h = absurd h
same_values basics.Text basics.Bool (constants.Bool x) h = absurd h
same_values basics.Text basics.Bool (constants.Int x) h = absurd h
same_values basics.Text basics.Bool (constants.Text x) h = ((λ e. absurd cc), (λ r. absurd r))
same_values basics.Text basics.Bool constants.Unknown h = absurd h
same_values basics.Text basics.Int (constants.Bool x) h = absurd h
same_values basics.Text basics.Int (constants.Int x) h = absurd h
same_values basics.Text basics.Int (constants.Text x) h = ((λ e. absurd cc), (λ r. absurd r))
same_values basics.Text basics.Int constants.Unknown h = absurd h
same_values basics.Text basics.Text k h = ((λ e. h), (λ r. refl))

pub is_value : {T : Type 0} (rules : TypeRules T) (b c : Basic) (t : T) → rules.form t ≡ forms.Basic c → assignable rules (untyped b) t ≡ is_basic b c
is_value rules b c t e = untyped_is rules b t ∙ ap (takes_untyped b (rules.assignable (basic_type rules b) t)) e

pub represented : {T : Type 0} (rules : TypeRules T) (b c : Basic) (k : Constant) (t : T) → IsValueOf b k → rules.form t ≡ forms.Basic c → assignable rules (untyped b) t ≡ true → IsValueOf c k
represented rules b c k t h e a = (same_values b c k h).0 (sym (is_value rules b c t e) ∙ a)

pub represents : {T : Type 0} (rules : TypeRules T) (b c : Basic) (k : Constant) (t : T) → IsValueOf b k → rules.form t ≡ forms.Basic c → IsValueOf c k → assignable rules (untyped b) t ≡ true
represents rules b c k t h e r = is_value rules b c t e ∙ (same_values b c k h).1 r
