-- Addresses, what pointers point to, and what changes a variable.
use Rattle.std.proofs.Common.{◌≡◌, ◌↔◌, Bool, true, false, ◌||◌, IsTrue, IsOk, Option, Some, None, Result, Ok, Err, if◌then◌else◌, pos, refl, sym, ap, subst, ◌∙◌}
use Rattle.go_token_core.specs.text_core.declared.rule.Rule.{Rule}
use Rattle.go_token_core.specs.text_core.declared.rule.Rule.TheVariants.{Y3}
use Rattle.go_token_core.specs.declared.kind.Operator.{Operator}
use Rattle.go_token_core.specs.declared.kind.Operator.TheVariants as operators
use Rattle.go_constant_core.specs.declared.values.Constant.{Constant}
use Rattle.go_constant_core.specs.declared.values.Constant.TheVariants as constant
use Rattle.go_term_core.specs.declared.term.Basic.TheVariants as basics
use Rattle.go_operand_core.specs.declared.types.ValueType.{ValueType}
use Rattle.go_operand_core.specs.declared.types.ValueType.TheVariants as types
use Rattle.go_operand_core.specs.declared.types.Operand.{Operand}
use Rattle.go_operand_core.specs.declared.types.TypeForm.{TypeForm}
use Rattle.go_operand_core.specs.declared.types.TypeForm.TheVariants as forms
use Rattle.go_operand_core.specs.declared.operators.Group.{Group}
use Rattle.go_operand_core.specs.declared.operators.Group.TheVariants as groups
use Rattle.go_operand_core.specs.TypeRules.{TypeRules}
use Rattle.go_operand_core.specs.Values.{form_basic, basic_under}
use Rattle.go_operand_core.specs.Assign.{takes_untyped, assignable, common}
use Rattle.go_operand_core.specs.Operators.{group, takes, value, arithmetic, binary_in, binary_operand, refused_in}
use Rattle.go_operand_core.specs.Prefixes.{pointed, unary_operand}
use Rattle.go_operand_core.specs.Updates.{broken, update_with, update_by, increment}
use Rattle.go_operand_core.specs.Relations.{HasNoType, HaveCommon, of_one_type, first_takes, second_takes, of_one_kind}
use Rattle.go_operand_core.specs.Laws.{IsArithmetic}
use Rattle.go_operand_core.specs.Variables.{operand}
use Rattle.go_operand_core.proofs.Relating.{no_type}
use Rattle.go_operand_core.proofs.Typing.{own_type}

pub address : {T : Type 0} (rules : TypeRules T) (t : T) (c : Option Constant) (p literal : Bool) → IsTrue (literal || p)
    → unary_operand rules operators.And literal (operand (types.Typed t) c p) ≡ Ok (operand (types.Typed (rules.pointer_to t)) None false)
address {T = T} rules t c p literal h =
    let R : Result (Operand T) Rule = Ok (operand (types.Typed (rules.pointer_to t)) None false) in
    let P : Bool → Type 0 = λ b. (if b then Ok (value (types.Typed (rules.pointer_to t)) None) else Err Y3) ≡ R in
    subst P (sym h) refl

pub no_variable : {T : Type 0} (rules : TypeRules T) (v : ValueType T) (c : Option Constant) → unary_operand rules operators.And false (operand v c false) ≡ Err Y3
no_variable rules (types.Typed t) c = refl
no_variable rules types.UntypedInt c = refl
no_variable rules types.UntypedText c = refl
no_variable rules types.UntypedBool c = refl
no_variable rules types.Nil c = refl

pub no_address : {T : Type 0} (rules : TypeRules T) (v : ValueType T) (c : Option Constant) (p literal : Bool) → HasNoType v → unary_operand rules operators.And literal (operand v c p) ≡ Err Y3
no_address rules (types.Typed t) c p literal n = absurd n
no_address rules types.UntypedInt c p literal n = refl
no_address rules types.UntypedText c p literal n = refl
no_address rules types.UntypedBool c p literal n = refl
no_address rules types.Nil c p literal n = refl

pub points : {T : Type 0} (rules : TypeRules T) (t base : T) (c : Option Constant) (p literal : Bool) → rules.form t ≡ forms.Pointer base
    → unary_operand rules operators.Star literal (operand (types.Typed t) c p) ≡ Ok (operand (types.Typed base) None true)
points rules t base c p literal e = ap pointed e

pub back : {T : Type 0} (rules : TypeRules T) (t : T) (c : Option Constant) (o : Operand T) → rules.form (rules.pointer_to t) ≡ forms.Pointer t
    → unary_operand rules operators.And false (operand (types.Typed t) c true) ≡ Ok o → unary_operand rules operators.Star false o ≡ Ok (operand (types.Typed t) None true)
back {T = T} rules t c o f h =
    let R : Result (Operand T) Rule = Ok (operand (types.Typed t) None true) in
    let e : operand (types.Typed (rules.pointer_to t)) None false ≡ o = cc in
    let P : Operand T → Type 0 = λ z. unary_operand rules operators.Star false z ≡ R in
    subst P e (points rules (rules.pointer_to t) t None false false f)

pub no_pointer : {T : Type 0} (rules : TypeRules T) (v : ValueType T) (c : Option Constant) (p literal : Bool) → HasNoType v → unary_operand rules operators.Star literal (operand v c p) ≡ Err Y3
no_pointer rules (types.Typed t) c p literal n = absurd n
no_pointer rules types.UntypedInt c p literal n = refl
no_pointer rules types.UntypedText c p literal n = refl
no_pointer rules types.UntypedBool c p literal n = refl
no_pointer rules types.Nil c p literal n = refl

gate : {T : Type 0} (may : Bool) (r : Result (Operand T) Rule) → ((if may then broken r else Some Y3) ≡ None) ↔ (IsTrue may × IsOk r)
gate true (Ok o) = ((λ h. (refl, refl)), (λ p. refl))
gate true (Err e) = ((λ h. absurd cc), (λ p. let k = p.1 in absurd cc))
gate false r = ((λ h. absurd cc), (λ p. let k = p.0 in absurd cc))

bits_alone : (g : Group) (r : Rule) → refused_in g ≡ Some r → g ≡ groups.Bits
bits_alone groups.Bits r h = refl
bits_alone groups.Logic r h = absurd cc
bits_alone groups.Sum r h = absurd cc
bits_alone groups.Arithmetic r h = absurd cc
bits_alone groups.Order r h = absurd cc
bits_alone groups.Equality r h = absurd cc

outside : {T : Type 0} (rules : TypeRules T) (g : Group) (op : Operator) (x y : Operand T) → g ≡ groups.Bits → IsOk (binary_in rules g op x y) → ⊥
outside rules g op x y e h = let P : Group → Type 0 = λ k. IsOk (binary_in rules k op x y) in let never : false ≡ true = subst P e h in absurd cc

accepted_by : {T : Type 0} (rules : TypeRules T) (op : Operator) (x y : Operand T) (m : Option Rule) → refused_in (group op) ≡ m
    → (update_with rules op m x y ≡ None) ↔ (IsTrue x.addressable × IsOk (binary_operand rules op x y))
accepted_by rules op x y (Some r) e = ((λ h. absurd cc), (λ p. absurd (outside rules (group op) op x y (bits_alone (group op) r e) p.1)))
accepted_by rules op x y None e = gate x.addressable (binary_operand rules op x y)

pub accepted : {T : Type 0} (rules : TypeRules T) (op : Operator) (x y : Operand T) → (update_by rules op x y ≡ None) ↔ (IsTrue x.addressable × IsOk (binary_operand rules op x y))
accepted rules op x y = accepted_by rules op x y (refused_in (group op)) refl

never_typed : {T : Type 0} (v : ValueType T) (t : T) → v ≡ types.Typed t → HasNoType v → ⊥
never_typed {T = T} v t e n = let P : ValueType T → Type 0 = λ w. HasNoType w in subst P e n

own_of : {T : Type 0} (rules : TypeRules T) (v w both : ValueType T) (t : T) → v ≡ types.Typed t → HaveCommon rules v w both → both ≡ types.Typed t
own_of rules v w both t k (of_one_type s u e f h g) = g ∙ (sym e ∙ k)
own_of rules v w both t k (first_takes u n f a g) = absurd (never_typed v t k n)
own_of rules v w both t k (second_takes s e n a g) = g ∙ (sym e ∙ k)
own_of {T = T} rules v w both t k (of_one_kind b e f g) =
    let P : ValueType T → Type 0 = λ x. HasNoType x in absurd (never_typed v t k (subst P (sym e) (no_type T b)))

pub own : {T : Type 0} (rules : TypeRules T) (op : Operator) (x y o : Operand T) (t : T) → IsArithmetic op → x.value_type ≡ types.Typed t → binary_operand rules op x y ≡ Ok o
    → o.value_type ≡ types.Typed t
own rules op x y o t i k h = own_of rules x.value_type y.value_type o.value_type t k (own_type rules op x y o i h)

-- x++ is x += 1

abbrev one : Option Constant
one = Some (constant.Int (pos 1))

-- what an int takes that is untyped, as far as this looks at what lies under the type
abbrev summed : {T : Type 0} → T → Bool → TypeForm T → Result (Operand T) Rule
summed s implements f = if takes_untyped basics.Int implements f then (if takes groups.Sum (form_basic f) then Ok (value (types.Typed s) None) else Err Y3) else Err Y3

over_int : {T : Type 0} (s : T) (implements : Bool) (f : TypeForm T) → IsOk (summed s implements f) ↔ (form_basic f ≡ Some basics.Int)
over_int s implements forms.Nothing = ((λ h. absurd cc), (λ h. absurd cc))
over_int s implements (forms.Basic basics.Bool) = ((λ h. absurd cc), (λ h. absurd cc))
over_int s implements (forms.Basic basics.Int) = ((λ h. refl), (λ h. refl))
over_int s implements (forms.Basic basics.Text) = ((λ h. absurd cc), (λ h. absurd cc))
over_int s implements (forms.Pointer t) = ((λ h. absurd cc), (λ h. absurd cc))
over_int s implements forms.Struct = ((λ h. absurd cc), (λ h. absurd cc))
over_int s true forms.Interface = ((λ h. absurd cc), (λ h. absurd cc))
over_int s false forms.Interface = ((λ h. absurd cc), (λ h. absurd cc))

adds : {T : Type 0} (rules : TypeRules T) (s : T) (b : Bool)
    → arithmetic rules operators.Plus (if b then Some (types.Typed s) else None) None one ≡ (if b then (if takes groups.Sum (form_basic (rules.form s)) then Ok (value (types.Typed s) None) else Err Y3) else Err Y3)
adds rules s true = refl
adds rules s false = refl

added : {T : Type 0} (rules : TypeRules T) (v : ValueType T) → IsOk (arithmetic rules operators.Plus (common rules v types.UntypedInt) None one) ↔ (basic_under rules v ≡ Some basics.Int)
added {T = T} rules (types.Typed s) =
    let e = adds rules s (assignable rules types.UntypedInt s) in
    let P : Result (Operand T) Rule → Type 0 = λ r. IsOk r ↔ (form_basic (rules.form s) ≡ Some basics.Int) in
    subst P (sym e) (over_int s (rules.assignable rules.int s) (rules.form s))
added rules types.UntypedInt = ((λ h. refl), (λ h. refl))
added rules types.UntypedText = ((λ h. absurd cc), (λ h. absurd cc))
added rules types.UntypedBool = ((λ h. absurd cc), (λ h. absurd cc))
added rules types.Nil = ((λ h. absurd cc), (λ h. absurd cc))

sum_ok : {T : Type 0} (rules : TypeRules T) (v : ValueType T) (c : Option Constant) → c ≡ None
    → IsOk (arithmetic rules operators.Plus (common rules v types.UntypedInt) c one) ↔ (basic_under rules v ≡ Some basics.Int)
sum_ok rules v c e =
    let P : Option Constant → Type 0 = λ d. IsOk (arithmetic rules operators.Plus (common rules v types.UntypedInt) d one) ↔ (basic_under rules v ≡ Some basics.Int) in
    subst P (sym e) (added rules v)

pub incremented : {T : Type 0} (rules : TypeRules T) (x : Operand T) → x.constant ≡ None
    → (increment rules x ≡ None) ↔ (IsTrue x.addressable × (basic_under rules x.value_type ≡ Some basics.Int))
incremented rules x e =
    let whole = accepted rules operators.Plus x (value types.UntypedInt one) in
    let part = sum_ok rules x.value_type x.constant e in
    ((λ h. let p = whole.0 h in (p.0, part.0 p.1)), (λ p. whole.1 (p.0, part.1 p.1)))
