-- The table of operators.
use Rattle.std.proofs.Common.{◌≡◌, Bool, true, false, ◌&&◌, ◌||◌, Some, None, Result, Ok, Err, if◌then◌else◌, refl, sym, ap, subst, ◌∙◌}
use Rattle.go_token_core.specs.text_core.declared.rule.Rule.{Rule}
use Rattle.go_token_core.specs.text_core.declared.rule.Rule.TheVariants.{Y3, Y7, X1}
use Rattle.go_token_core.specs.declared.kind.Operator.{Operator}
use Rattle.go_token_core.specs.declared.kind.Operator.TheVariants as operators
use Rattle.go_term_core.specs.declared.term.Basic.{Basic}
use Rattle.go_term_core.specs.declared.term.Basic.TheVariants as basics
use Rattle.go_operand_core.specs.declared.types.ValueType.TheVariants as types
use Rattle.go_operand_core.specs.declared.types.Operand.{Operand}
use Rattle.go_operand_core.specs.declared.types.TypeForm.{TypeForm}
use Rattle.go_operand_core.specs.declared.types.TypeForm.TheVariants as forms
use Rattle.go_operand_core.specs.declared.operators.Group.TheVariants as groups
use Rattle.go_operand_core.specs.TypeRules.{TypeRules}
use Rattle.go_operand_core.specs.Values.{is_over, form_basic}
use Rattle.go_operand_core.specs.Assign.{common, comparable}
use Rattle.go_operand_core.specs.Operators.{group, divides, takes, value, arithmetic, ordered, equated}
use Rattle.go_operand_core.specs.Prefixes.{signed_over, indirection, pointed}
use Rattle.go_operand_core.specs.Laws.{OwnType, Boolean, Misfit, Outside, column, plain, judged, OperatorsAreToldApart}

not_zero : {A : Type 0} (d : Bool) (x y : A) → (if d && false then x else y) ≡ y
not_zero true x y = refl
not_zero false x y = refl

row : {T : Type 0} (rules : TypeRules T) (op : Operator) (s t : T) (b : Basic) → rules.identical s t ≡ true → rules.form s ≡ forms.Basic b
    → arithmetic rules op (common rules (types.Typed s) (types.Typed t)) None None ≡ (if takes (group op) (Some b) then Ok (value (types.Typed s) None) else Err Y3)
row {T = T} rules op s t b i f =
    let R : Result (Operand T) Rule = if takes (group op) (Some b) then Ok (value (types.Typed s) None) else Err Y3 in
    let P : Bool → Type 0 = λ same. arithmetic rules op (if same then Some (types.Typed s) else None) None None ≡ R in
    let Q : TypeForm T → Type 0 = λ g. (if takes (group op) (form_basic g) then (if divides op && false then Err Y7 else Ok (value (types.Typed s) None)) else Err Y3) ≡ R in
    let plainly = not_zero (divides op) (Err Y7) (Ok (value (types.Typed s) None)) in
    subst P (sym i) (subst Q (sym f) (ap (λ (r : Result (Operand T) Rule). if takes (group op) (Some b) then r else Err Y3) plainly))

order_row : {T : Type 0} (rules : TypeRules T) (op : Operator) (s t : T) (b : Basic) → rules.identical s t ≡ true → rules.form s ≡ forms.Basic b
    → ordered rules op (common rules (types.Typed s) (types.Typed t)) None None ≡ (if takes (group op) (Some b) then Ok (value types.UntypedBool None) else Err Y3)
order_row {T = T} rules op s t b i f =
    let R : Result (Operand T) Rule = if takes (group op) (Some b) then Ok (value types.UntypedBool None) else Err Y3 in
    let P : Bool → Type 0 = λ same. ordered rules op (if same then Some (types.Typed s) else None) None None ≡ R in
    let Q : TypeForm T → Type 0 = λ g. (if takes (group op) (form_basic g) then Ok (value types.UntypedBool None) else Err Y3) ≡ R in
    subst P (sym i) (subst Q (sym f) refl)

equal_row : {T : Type 0} (rules : TypeRules T) (op : Operator) (s t : T) → rules.assignable s t ≡ true
    → equated {T = T} op (comparable rules (types.Typed s) (types.Typed t)) None None ≡ Ok (value types.UntypedBool None)
equal_row {T = T} rules op s t a =
    let R : Result (Operand T) Rule = Ok (value types.UntypedBool None) in
    let P : Bool → Type 0 = λ fits. equated {T = T} op (fits || rules.assignable t s) None None ≡ R in
    subst P (sym a) refl

sign_row : {T : Type 0} (rules : TypeRules T) (taken : Basic) (op : Operator) (s : T) (p : Bool) (b : Basic) → rules.form s ≡ forms.Basic b
    → signed_over rules taken op (plain (types.Typed s) p) ≡ (if is_over taken (Some b) then Ok (value (types.Typed s) None) else Err Y3)
sign_row {T = T} rules taken op s p b f =
    let Q : TypeForm T → Type 0 = λ g. (if is_over taken (form_basic g) then Ok (value (types.Typed s) None) else Err Y3) ≡ (if is_over taken (Some b) then Ok (value (types.Typed s) None) else Err Y3) in
    subst Q (sym f) refl

sums : {T : Type 0} (s : T) (b : Basic) → (if takes groups.Sum (Some b) then Ok (value (types.Typed s) None) else Err Y3) ≡ judged s (column b Misfit OwnType OwnType)
sums s basics.Bool = refl
sums s basics.Int = refl
sums s basics.Text = refl

arithmetics : {T : Type 0} (s : T) (b : Basic) → (if takes groups.Arithmetic (Some b) then Ok (value (types.Typed s) None) else Err Y3) ≡ judged s (column b Misfit OwnType Misfit)
arithmetics s basics.Bool = refl
arithmetics s basics.Int = refl
arithmetics s basics.Text = refl

logics : {T : Type 0} (s : T) (b : Basic) → (if takes groups.Logic (Some b) then Ok (value (types.Typed s) None) else Err Y3) ≡ judged s (column b OwnType Misfit Misfit)
logics s basics.Bool = refl
logics s basics.Int = refl
logics s basics.Text = refl

orders : {T : Type 0} (s : T) (b : Basic) → (if takes groups.Order (Some b) then Ok (value types.UntypedBool None) else Err Y3) ≡ judged s (column b Misfit Boolean Boolean)
orders s basics.Bool = refl
orders s basics.Int = refl
orders s basics.Text = refl

equals : {T : Type 0} (s : T) (b : Basic) → Ok (value types.UntypedBool None) ≡ judged s (column b Boolean Boolean Boolean)
equals s basics.Bool = refl
equals s basics.Int = refl
equals s basics.Text = refl

outsides : {T : Type 0} (s : T) (b : Basic) → Err X1 ≡ judged s (column b Outside Outside Outside)
outsides s basics.Bool = refl
outsides s basics.Int = refl
outsides s basics.Text = refl

misfits : {T : Type 0} (s : T) (b : Basic) → pointed (forms.Basic b) ≡ judged s (column b Misfit Misfit Misfit)
misfits s basics.Bool = refl
misfits s basics.Int = refl
misfits s basics.Text = refl

signs : {T : Type 0} (s : T) (b : Basic) → (if is_over basics.Int (Some b) then Ok (value (types.Typed s) None) else Err Y3) ≡ judged s (column b Misfit OwnType Misfit)
signs s basics.Bool = refl
signs s basics.Int = refl
signs s basics.Text = refl

negations : {T : Type 0} (s : T) (b : Basic) → (if is_over basics.Bool (Some b) then Ok (value (types.Typed s) None) else Err Y3) ≡ judged s (column b OwnType Misfit Misfit)
negations s basics.Bool = refl
negations s basics.Int = refl
negations s basics.Text = refl

at_pointer : {T : Type 0} (rules : TypeRules T) (s : T) (b : Basic) → rules.form s ≡ forms.Basic b → indirection rules (types.Typed s) ≡ pointed (forms.Basic b)
at_pointer rules s b f = ap pointed f

pub table : {T : Type 0} → OperatorsAreToldApart T
table = record {
  sum = λ rules s t p q b i a f. row rules operators.Plus s t b i f ∙ sums s b;
  difference = λ rules s t p q b i a f. row rules operators.Minus s t b i f ∙ arithmetics s b;
  product = λ rules s t p q b i a f. row rules operators.Star s t b i f ∙ arithmetics s b;
  quotient = λ rules s t p q b i a f. row rules operators.Slash s t b i f ∙ arithmetics s b;
  remainder = λ rules s t p q b i a f. row rules operators.Percent s t b i f ∙ arithmetics s b;
  conjunction = λ rules s t p q b i a f. row rules operators.LogicalAnd s t b i f ∙ logics s b;
  disjunction = λ rules s t p q b i a f. row rules operators.LogicalOr s t b i f ∙ logics s b;
  equal = λ rules s t p q b i a f. equal_row rules operators.Equal s t a ∙ equals s b;
  not_equal = λ rules s t p q b i a f. equal_row rules operators.NotEqual s t a ∙ equals s b;
  less = λ rules s t p q b i a f. order_row rules operators.Less s t b i f ∙ orders s b;
  less_equal = λ rules s t p q b i a f. order_row rules operators.LessEqual s t b i f ∙ orders s b;
  greater = λ rules s t p q b i a f. order_row rules operators.Greater s t b i f ∙ orders s b;
  greater_equal = λ rules s t p q b i a f. order_row rules operators.GreaterEqual s t b i f ∙ orders s b;
  bits_and = λ rules s t p q b i a f. outsides s b;
  bits_or = λ rules s t p q b i a f. outsides s b;
  bits_xor = λ rules s t p q b i a f. outsides s b;
  bits_clear = λ rules s t p q b i a f. outsides s b;
  shift_left = λ rules s t p q b i a f. outsides s b;
  shift_right = λ rules s t p q b i a f. outsides s b;
  plus_sign = λ rules s p literal b f. sign_row rules basics.Int operators.Plus s p b f ∙ signs s b;
  minus_sign = λ rules s p literal b f. sign_row rules basics.Int operators.Minus s p b f ∙ signs s b;
  negation = λ rules s p literal b f. sign_row rules basics.Bool operators.Not s p b f ∙ negations s b;
  complement = λ rules s p literal b f. outsides s b;
  indirection = λ rules s p literal b f. at_pointer rules s b f ∙ misfits s b;
}
