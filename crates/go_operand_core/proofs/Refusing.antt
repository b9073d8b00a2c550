-- What is refused.
use Rattle.std.proofs.Common.{◌≡◌, Bool, true, false, ◌&&◌, Option, Some, None, Result, Err, if◌then◌else◌, pos, refl, sym, ap, subst, ◌∙◌, ◌⊎◌, inl, inr}
use Rattle.go_token_core.specs.text_core.declared.rule.Rule.{Rule}
use Rattle.go_token_core.specs.text_core.declared.rule.Rule.TheVariants.{Y3, Y7, X1}
use Rattle.go_token_core.specs.declared.kind.Operator.{Operator}
use Rattle.go_token_core.specs.declared.kind.Operator.TheVariants as operators
use Rattle.go_constant_core.specs.declared.values.Constant.{Constant}
use Rattle.go_constant_core.specs.declared.values.Constant.TheVariants as constant
use Rattle.go_term_core.specs.declared.term.Basic.{Basic}
use Rattle.go_term_core.specs.declared.term.Basic.TheVariants as basics
use Rattle.go_operand_core.specs.declared.types.ValueType.{ValueType}
use Rattle.go_operand_core.specs.declared.types.Operand.{Operand}
use Rattle.go_operand_core.specs.TypeRules.{TypeRules}
use Rattle.go_operand_core.specs.Values.{is_over, basic_under}
use Rattle.go_operand_core.specs.Assign.{common}
use Rattle.go_operand_core.specs.Operators.{group, divides, takes, is_some_zero, with_constants, arithmetic, binary_operand, refused_binary}
use Rattle.go_operand_core.specs.Prefixes.{refused_unary}
use Rattle.go_operand_core.specs.Relations.{HaveCommon}
use Rattle.go_operand_core.specs.Laws.{IsArithmetic, IsOrder, IsEquality}
use Rattle.go_operand_core.specs.Refusals.{IsBitOperator, IsPrefixOperator, IsDivision, AreIntegers}
use Rattle.go_operand_core.proofs.Relating.{basic_same, basic_itself, shared, shares}

at_known : {T : Type 0} (rules : TypeRules T) (op known : Operator) (a b : Operand T) (r : Result (Operand T) Rule) → op ≡ known → binary_operand rules known a b ≡ r → binary_operand rules op a b ≡ r
at_known rules op known a b r e h = subst (λ (p : Operator). binary_operand rules p a b ≡ r) (sym e) h

pub bits_outside : {T : Type 0} (rules : TypeRules T) (op : Operator) (a b : Operand T) → IsBitOperator op → binary_operand rules op a b ≡ Err X1
bits_outside rules op a b (inl e) = at_known rules op operators.And a b (Err X1) e refl
bits_outside rules op a b (inr (inl e)) = at_known rules op operators.Or a b (Err X1) e refl
bits_outside rules op a b (inr (inr (inl e))) = at_known rules op operators.Caret a b (Err X1) e refl
bits_outside rules op a b (inr (inr (inr (inl e)))) = at_known rules op operators.AndNot a b (Err X1) e refl
bits_outside rules op a b (inr (inr (inr (inr (inl e))))) = at_known rules op operators.ShiftLeft a b (Err X1) e refl
bits_outside rules op a b (inr (inr (inr (inr (inr e))))) = at_known rules op operators.ShiftRight a b (Err X1) e refl

refused_at : (op known : Operator) (r : Option Rule) → op ≡ known → refused_binary known ≡ r → refused_binary op ≡ r
refused_at op known r e h = subst (λ (p : Operator). refused_binary p ≡ r) (sym e) h

pub bits_refused : (op : Operator) → IsBitOperator op → refused_binary op ≡ Some X1
bits_refused op (inl e) = refused_at op operators.And (Some X1) e refl
bits_refused op (inr (inl e)) = refused_at op operators.Or (Some X1) e refl
bits_refused op (inr (inr (inl e))) = refused_at op operators.Caret (Some X1) e refl
bits_refused op (inr (inr (inr (inl e)))) = refused_at op operators.AndNot (Some X1) e refl
bits_refused op (inr (inr (inr (inr (inl e))))) = refused_at op operators.ShiftLeft (Some X1) e refl
bits_refused op (inr (inr (inr (inr (inr e))))) = refused_at op operators.ShiftRight (Some X1) e refl

arithmetic_passed : (op : Operator) → IsArithmetic op → refused_binary op ≡ None
arithmetic_passed op (inl e) = refused_at op operators.Plus None e refl
arithmetic_passed op (inr (inl e)) = refused_at op operators.Minus None e refl
arithmetic_passed op (inr (inr (inl e))) = refused_at op operators.Star None e refl
arithmetic_passed op (inr (inr (inr (inl e)))) = refused_at op operators.Slash None e refl
arithmetic_passed op (inr (inr (inr (inr (inl e))))) = refused_at op operators.Percent None e refl
arithmetic_passed op (inr (inr (inr (inr (inr (inl e)))))) = refused_at op operators.LogicalAnd None e refl
arithmetic_passed op (inr (inr (inr (inr (inr (inr e)))))) = refused_at op operators.LogicalOr None e refl

pub passed : (op : Operator) → (IsArithmetic op ⊎ (IsOrder op ⊎ IsEquality op)) → refused_binary op ≡ None
passed op (inl h) = arithmetic_passed op h
passed op (inr (inl (inl e))) = refused_at op operators.Less None e refl
passed op (inr (inl (inr (inl e)))) = refused_at op operators.LessEqual None e refl
passed op (inr (inl (inr (inr (inl e))))) = refused_at op operators.Greater None e refl
passed op (inr (inl (inr (inr (inr e))))) = refused_at op operators.GreaterEqual None e refl
passed op (inr (inr (inl e))) = refused_at op operators.Equal None e refl
passed op (inr (inr (inr e))) = refused_at op operators.NotEqual None e refl

prefix_at : (op known : Operator) → op ≡ known → refused_unary known ≡ None → refused_unary op ≡ None
prefix_at op known e h = subst (λ (p : Operator). refused_unary p ≡ None) (sym e) h

pub prefix_passed : (op : Operator) → IsPrefixOperator op → refused_unary op ≡ None
prefix_passed op (inl e) = prefix_at op operators.Plus e refl
prefix_passed op (inr (inl e)) = prefix_at op operators.Minus e refl
prefix_passed op (inr (inr (inl e))) = prefix_at op operators.Not e refl
prefix_passed op (inr (inr (inr (inl e)))) = prefix_at op operators.Star e refl
prefix_passed op (inr (inr (inr (inr e)))) = prefix_at op operators.And e refl

pub over_itself : (b : Basic) (u : Option Basic) → u ≡ Some b → is_over b u ≡ true
over_itself b u e = let P : Option Basic → Type 0 = λ v. is_over b v ≡ true in subst P (sym e) (basic_itself b)

pub over_tells : (b : Basic) (u : Option Basic) → is_over b u ≡ true → u ≡ Some b
over_tells b None h = absurd cc
over_tells b (Some c) h = ap Some (sym (basic_same b c h))

zero_in : {T : Type 0} (rules : TypeRules T) (op : Operator) (both : ValueType T) (x y : Option Constant) → takes (group op) (basic_under rules both) ≡ true
    → (divides op && is_some_zero y) ≡ true → arithmetic rules op (Some both) x y ≡ Err Y7
zero_in {T = T} rules op both x y t z =
    let R : Result (Operand T) Rule = Err Y7 in
    let P : Bool → Type 0 = λ b. (if b then (if divides op && is_some_zero y then Err Y7 else with_constants both op x y) else Err Y3) ≡ R in
    let Q : Bool → Type 0 = λ b. (if b then Err Y7 else with_constants both op x y) ≡ R in
    subst P (sym t) (subst Q (sym z) refl)

zero_at : {T : Type 0} (rules : TypeRules T) (op : Operator) (v w : ValueType T) (x y : Option Constant) (are : AreIntegers rules v w)
    → ((u : Option Basic) → takes (group op) u ≡ is_over basics.Int u) → (divides op && is_some_zero y) ≡ true → arithmetic rules op (common rules v w) x y ≡ Err Y7
zero_at {T = T} rules op v w x y are t z =
    let R : Result (Operand T) Rule = Err Y7 in
    let P : Option (ValueType T) → Type 0 = λ m. arithmetic rules op m x y ≡ R in
    subst P (sym (shares rules v w are.both are.common))
    (zero_in rules op are.both x y (t (basic_under rules are.both) ∙ over_itself basics.Int (basic_under rules are.both) are.over_int) z)

zero_constant : (y : Option Constant) → y ≡ Some (constant.Int (pos 0)) → is_some_zero y ≡ true
zero_constant y e = let P : Option Constant → Type 0 = λ c. is_some_zero c ≡ true in subst P (sym e) refl

pub by_zero : {T : Type 0} (rules : TypeRules T) (op : Operator) (a b : Operand T) → IsDivision op → AreIntegers rules a.value_type b.value_type
    → b.constant ≡ Some (constant.Int (pos 0)) → binary_operand rules op a b ≡ Err Y7
by_zero rules op a b (inl e) are z =
    at_known rules op operators.Slash a b (Err Y7) e (zero_at rules operators.Slash a.value_type b.value_type a.constant b.constant are (λ u. refl) (zero_constant b.constant z))
by_zero rules op a b (inr e) are z =
    at_known rules op operators.Percent a b (Err Y7) e (zero_at rules operators.Percent a.value_type b.value_type a.constant b.constant are (λ u. refl) (zero_constant b.constant z))

misfit_over : {T : Type 0} (rules : TypeRules T) (op : Operator) (v w both : ValueType T) (x y : Option Constant) (over : Bool) → is_over basics.Int (basic_under rules both) ≡ over
    → HaveCommon rules v w both → ((u : Option Basic) → takes (group op) u ≡ is_over basics.Int u) → (AreIntegers rules v w → ⊥) → arithmetic rules op (Some both) x y ≡ Err Y3
misfit_over rules op v w both x y true e have t never =
    absurd (never (record { both = both; common = have; over_int = over_tells basics.Int (basic_under rules both) e }))
misfit_over {T = T} rules op v w both x y false e have t never =
    let R : Result (Operand T) Rule = Err Y3 in
    let P : Bool → Type 0 = λ b. (if b then (if divides op && is_some_zero y then Err Y7 else with_constants both op x y) else Err Y3) ≡ R in
    subst P (sym (t (basic_under rules both) ∙ e)) refl

misfit_in : {T : Type 0} (rules : TypeRules T) (op : Operator) (v w : ValueType T) (m : Option (ValueType T)) (x y : Option Constant) → common rules v w ≡ m
    → ((u : Option Basic) → takes (group op) u ≡ is_over basics.Int u) → (AreIntegers rules v w → ⊥) → arithmetic rules op m x y ≡ Err Y3
misfit_in rules op v w None x y e t never = refl
misfit_in rules op v w (Some both) x y e t never =
    misfit_over rules op v w both x y (is_over basics.Int (basic_under rules both)) refl (shared rules v w both e) t never

misfit_at : {T : Type 0} (rules : TypeRules T) (op : Operator) (a b : Operand T) → ((u : Option Basic) → takes (group op) u ≡ is_over basics.Int u)
    → (AreIntegers rules a.value_type b.value_type → ⊥) → arithmetic rules op (common rules a.value_type b.value_type) a.constant b.constant ≡ Err Y3
misfit_at rules op a b t never = misfit_in rules op a.value_type b.value_type (common rules a.value_type b.value_type) a.constant b.constant refl t never

pub misfit : {T : Type 0} (rules : TypeRules T) (op : Operator) (a b : Operand T) → IsDivision op → (AreIntegers rules a.value_type b.value_type → ⊥) → binary_operand rules op a b ≡ Err Y3
misfit rules op a b (inl e) never = at_known rules op operators.Slash a b (Err Y3) e (misfit_at rules operators.Slash a b (λ u. refl) never)
misfit rules op a b (inr e) never = at_known rules op operators.Percent a b (Err Y3) e (misfit_at rules operators.Percent a b (λ u. refl) never)
