-- The types and constants of what operators give.
use Rattle.std.proofs.Common.{◌≡◌, ◌↔◌, Bool, true, false, ◌&&◌, Option, Some, None, IsSome, is_some, Result, Ok, Err, if◌then◌else◌, refl, sym, ap, subst, ◌⊎◌, inl, inr}
use Rattle.go_token_core.specs.text_core.declared.rule.Rule.{Rule}
use Rattle.go_token_core.specs.text_core.declared.rule.Rule.TheVariants.{Y3, Y7}
use Rattle.go_token_core.specs.declared.kind.Operator.{Operator}
use Rattle.go_token_core.specs.declared.kind.Operator.TheVariants as operators
use Rattle.go_constant_core.specs.declared.values.Constant.{Constant}
use Rattle.go_constant_core.specs.Values as constants
use Rattle.go_term_core.specs.declared.term.Basic.{Basic}
use Rattle.go_term_core.specs.declared.term.Basic.TheVariants as basics
use Rattle.go_operand_core.specs.declared.types.ValueType.{ValueType}
use Rattle.go_operand_core.specs.declared.types.ValueType.TheVariants as types
use Rattle.go_operand_core.specs.declared.types.Operand.{Operand}
use Rattle.go_operand_core.specs.declared.operators.Group.{Group}
use Rattle.go_operand_core.specs.declared.operators.Group.TheVariants as groups
use Rattle.go_operand_core.specs.TypeRules.{TypeRules}
use Rattle.go_operand_core.specs.Values.{is_over, basic_under}
use Rattle.go_operand_core.specs.Assign.{common, comparable}
use Rattle.go_operand_core.specs.Operators.{group, divides, takes, is_some_zero, value, computed, with_constants, arithmetic, ordered, equated, binary_in, binary_operand}
use Rattle.go_operand_core.specs.Prefixes.{signed, signed_over, unary_operand}
use Rattle.go_operand_core.specs.Relations.{HaveCommon, AreComparable}
use Rattle.go_operand_core.specs.Laws.{IsArithmetic, IsOrder, IsEquality, HaveOneType}
use Rattle.go_operand_core.proofs.Relating.{shared, compared}

pub if_ok : {A : Type 0} (b : Bool) (r : Result A Rule) (e : Rule) (o : A) → (if b then r else Err e) ≡ Ok o → (b ≡ true) × (r ≡ Ok o)
if_ok true r e o h = (refl, h)
if_ok false r e o h = absurd cc

unless_ok : {A : Type 0} (b : Bool) (r : Result A Rule) (e : Rule) (o : A) → (if b then Err e else r) ≡ Ok o → r ≡ Ok o
unless_ok true r e o h = absurd cc
unless_ok false r e o h = h

-- a result that is no rule
abbrev pub accepted : {T : Type 0} → Operand T → Result (Operand T) Rule
accepted o = Ok o

pub type_of : {T : Type 0} (v : ValueType T) (c : Option Constant) (o : Operand T) → accepted (value v c) ≡ accepted o → o.value_type ≡ v
type_of {T = T} v c o h = let e : value v c ≡ o = cc in ap (λ (z : Operand T). z.value_type) (sym e)

pub constant_of : {T : Type 0} (v : ValueType T) (c : Option Constant) (o : Operand T) → accepted (value v c) ≡ accepted o → o.constant ≡ c
constant_of {T = T} v c o h = let e : value v c ≡ o = cc in ap (λ (z : Operand T). z.constant) (sym e)

computed_type : {T : Type 0} (v : ValueType T) (c : Option Constant) (o : Operand T) → computed v c ≡ Ok o → o.value_type ≡ v
computed_type v None o h = absurd cc
computed_type v (Some c) o h = type_of v (Some c) o h

made_type : {T : Type 0} (v : ValueType T) (op : Operator) (x y : Option Constant) (o : Operand T) → with_constants v op x y ≡ Ok o → o.value_type ≡ v
made_type v op None y o h = type_of v None o h
made_type v op (Some c) None o h = type_of v None o h
made_type v op (Some c) (Some d) o h = computed_type v (constants.binary op c d) o h

arithmetic_type : {T : Type 0} (rules : TypeRules T) (op : Operator) (m : Option (ValueType T)) (x y : Option Constant) (o : Operand T)
    → arithmetic rules op m x y ≡ Ok o → m ≡ Some o.value_type
arithmetic_type rules op None x y o h = absurd cc
arithmetic_type rules op (Some v) x y o h =
    let p = if_ok (takes (group op) (basic_under rules v)) (if divides op && is_some_zero y then Err Y7 else with_constants v op x y) Y3 o h in
    ap Some (sym (made_type v op x y o (unless_ok (divides op && is_some_zero y) (with_constants v op x y) Y7 o p.1)))

own : {T : Type 0} (rules : TypeRules T) (op : Operator) (a b o : Operand T)
    → arithmetic rules op (common rules a.value_type b.value_type) a.constant b.constant ≡ Ok o → HaveCommon rules a.value_type b.value_type o.value_type
own rules op a b o h =
    shared rules a.value_type b.value_type o.value_type (arithmetic_type rules op (common rules a.value_type b.value_type) a.constant b.constant o h)

-- at an operator that is known
at_operator : {T : Type 0} (rules : TypeRules T) (op known : Operator) (a b o : Operand T) → op ≡ known → binary_operand rules op a b ≡ Ok o → binary_operand rules known a b ≡ Ok o
at_operator rules op known a b o e h = subst (λ (p : Operator). binary_operand rules p a b ≡ Ok o) e h

pub own_type : {T : Type 0} (rules : TypeRules T) (op : Operator) (a b o : Operand T) → IsArithmetic op → binary_operand rules op a b ≡ Ok o → HaveCommon rules a.value_type b.value_type o.value_type
own_type rules op a b o (inl e) h = own rules operators.Plus a b o (at_operator rules op operators.Plus a b o e h)
own_type rules op a b o (inr (inl e)) h = own rules operators.Minus a b o (at_operator rules op operators.Minus a b o e h)
own_type rules op a b o (inr (inr (inl e))) h = own rules operators.Star a b o (at_operator rules op operators.Star a b o e h)
own_type rules op a b o (inr (inr (inr (inl e)))) h = own rules operators.Slash a b o (at_operator rules op operators.Slash a b o e h)
own_type rules op a b o (inr (inr (inr (inr (inl e))))) h = own rules operators.Percent a b o (at_operator rules op operators.Percent a b o e h)
own_type rules op a b o (inr (inr (inr (inr (inr (inl e)))))) h = own rules operators.LogicalAnd a b o (at_operator rules op operators.LogicalAnd a b o e h)
own_type rules op a b o (inr (inr (inr (inr (inr (inr e)))))) h = own rules operators.LogicalOr a b o (at_operator rules op operators.LogicalOr a b o e h)

in_order : {T : Type 0} (rules : TypeRules T) (op : Operator) (v w : ValueType T) (m : Option (ValueType T)) (x y : Option Constant) (o : Operand T)
    → common rules v w ≡ m → ordered rules op m x y ≡ Ok o → HaveOneType rules v w × (o.value_type ≡ types.UntypedBool)
in_order rules op v w None x y o e h = absurd cc
in_order rules op v w (Some both) x y o e h =
    let p = if_ok (takes (group op) (basic_under rules both)) (with_constants types.UntypedBool op x y) Y3 o h in
    (record { both = both; common = shared rules v w both e }, made_type types.UntypedBool op x y o p.1)

ordered_by : {T : Type 0} (rules : TypeRules T) (op : Operator) (a b o : Operand T)
    → ordered rules op (common rules a.value_type b.value_type) a.constant b.constant ≡ Ok o → HaveOneType rules a.value_type b.value_type × (o.value_type ≡ types.UntypedBool)
ordered_by rules op a b o h = in_order rules op a.value_type b.value_type (common rules a.value_type b.value_type) a.constant b.constant o refl h

pub ordered_type : {T : Type 0} (rules : TypeRules T) (op : Operator) (a b o : Operand T) → IsOrder op → binary_operand rules op a b ≡ Ok o
    → HaveOneType rules a.value_type b.value_type × (o.value_type ≡ types.UntypedBool)
ordered_type rules op a b o (inl e) h = ordered_by rules operators.Less a b o (at_operator rules op operators.Less a b o e h)
ordered_type rules op a b o (inr (inl e)) h = ordered_by rules operators.LessEqual a b o (at_operator rules op operators.LessEqual a b o e h)
ordered_type rules op a b o (inr (inr (inl e))) h = ordered_by rules operators.Greater a b o (at_operator rules op operators.Greater a b o e h)
ordered_type rules op a b o (inr (inr (inr e))) h = ordered_by rules operators.GreaterEqual a b o (at_operator rules op operators.GreaterEqual a b o e h)

equated_by : {T : Type 0} (rules : TypeRules T) (op : Operator) (a b o : Operand T)
    → equated op (comparable rules a.value_type b.value_type) a.constant b.constant ≡ Ok o → AreComparable rules a.value_type b.value_type × (o.value_type ≡ types.UntypedBool)
equated_by rules op a b o h =
    let p = if_ok (comparable rules a.value_type b.value_type) (with_constants types.UntypedBool op a.constant b.constant) Y3 o h in
    (compared rules a.value_type b.value_type p.0, made_type types.UntypedBool op a.constant b.constant o p.1)

pub equated_type : {T : Type 0} (rules : TypeRules T) (op : Operator) (a b o : Operand T) → IsEquality op → binary_operand rules op a b ≡ Ok o
    → AreComparable rules a.value_type b.value_type × (o.value_type ≡ types.UntypedBool)
equated_type rules op a b o (inl e) h = equated_by rules operators.Equal a b o (at_operator rules op operators.Equal a b o e h)
equated_type rules op a b o (inr e) h = equated_by rules operators.NotEqual a b o (at_operator rules op operators.NotEqual a b o e h)

-- what is not constant, and what is

no_constant : (c : Option Constant) → c ≡ None → IsSome c → ⊥
no_constant c e h = let P : Option Constant → Type 0 = λ d. is_some d ≡ true in let n : is_some {T = Constant} None ≡ true = subst P e h in absurd cc

some_constant : (c : Option Constant) (k : Constant) → c ≡ Some k → IsSome c
some_constant c k e = let P : Option Constant → Type 0 = λ d. is_some d ≡ true in subst P (sym e) refl

computed_constant : {T : Type 0} (v : ValueType T) (c : Option Constant) (o : Operand T) → computed v c ≡ Ok o → IsSome o.constant
computed_constant v None o h = absurd cc
computed_constant v (Some c) o h = some_constant o.constant c (constant_of v (Some c) o h)

made_constant : {T : Type 0} (v : ValueType T) (op : Operator) (x y : Option Constant) (o : Operand T) → with_constants v op x y ≡ Ok o → IsSome o.constant ↔ (IsSome x × IsSome y)
made_constant v op None y o h = ((λ s. absurd (no_constant o.constant (constant_of v None o h) s)), (λ p. let n = p.0 in absurd cc))
made_constant v op (Some c) None o h = ((λ s. absurd (no_constant o.constant (constant_of v None o h) s)), (λ p. let n = p.1 in absurd cc))
made_constant v op (Some c) (Some d) o h = ((λ s. (refl, refl)), (λ p. computed_constant v (constants.binary op c d) o h))

arithmetic_constant : {T : Type 0} (rules : TypeRules T) (op : Operator) (m : Option (ValueType T)) (x y : Option Constant) (o : Operand T)
    → arithmetic rules op m x y ≡ Ok o → IsSome o.constant ↔ (IsSome x × IsSome y)
arithmetic_constant rules op None x y o h = absurd cc
arithmetic_constant rules op (Some v) x y o h =
    let p = if_ok (takes (group op) (basic_under rules v)) (if divides op && is_some_zero y then Err Y7 else with_constants v op x y) Y3 o h in
    made_constant v op x y o (unless_ok (divides op && is_some_zero y) (with_constants v op x y) Y7 o p.1)

ordered_constant : {T : Type 0} (rules : TypeRules T) (op : Operator) (m : Option (ValueType T)) (x y : Option Constant) (o : Operand T)
    → ordered rules op m x y ≡ Ok o → IsSome o.constant ↔ (IsSome x × IsSome y)
ordered_constant rules op None x y o h = absurd cc
ordered_constant rules op (Some v) x y o h =
    let p = if_ok (takes (group op) (basic_under rules v)) (with_constants types.UntypedBool op x y) Y3 o h in
    made_constant types.UntypedBool op x y o p.1

constant_in : {T : Type 0} (rules : TypeRules T) (g : Group) (op : Operator) (a b o : Operand T) → binary_in rules g op a b ≡ Ok o
    → IsSome o.constant ↔ (IsSome a.constant × IsSome b.constant)
constant_in rules groups.Bits op a b o h = absurd cc
constant_in rules groups.Logic op a b o h = arithmetic_constant rules op (common rules a.value_type b.value_type) a.constant b.constant o h
constant_in rules groups.Sum op a b o h = arithmetic_constant rules op (common rules a.value_type b.value_type) a.constant b.constant o h
constant_in rules groups.Arithmetic op a b o h = arithmetic_constant rules op (common rules a.value_type b.value_type) a.constant b.constant o h
constant_in rules groups.Order op a b o h = ordered_constant rules op (common rules a.value_type b.value_type) a.constant b.constant o h
constant_in rules groups.Equality op a b o h =
    let p = if_ok (comparable rules a.value_type b.value_type) (with_constants types.UntypedBool op a.constant b.constant) Y3 o h in
    made_constant types.UntypedBool op a.constant b.constant o p.1

pub of_two : {T : Type 0} (rules : TypeRules T) (op : Operator) (a b o : Operand T) → binary_operand rules op a b ≡ Ok o → IsSome o.constant ↔ (IsSome a.constant × IsSome b.constant)
of_two rules op a b o h = constant_in rules (group op) op a b o h

signed_constant : {T : Type 0} (op : Operator) (v : ValueType T) (c : Option Constant) (o : Operand T) → signed op v c ≡ Ok o → IsSome o.constant ↔ IsSome c
signed_constant op v None o h = ((λ s. absurd (no_constant o.constant (constant_of v None o h) s)), (λ n. absurd cc))
signed_constant op v (Some c) o h = ((λ s. refl), (λ s. computed_constant v (constants.unary op c) o h))

over_constant : {T : Type 0} (rules : TypeRules T) (b : Basic) (op : Operator) (a o : Operand T) → signed_over rules b op a ≡ Ok o → IsSome o.constant ↔ IsSome a.constant
over_constant rules b op a o h =
    let p = if_ok (is_over b (basic_under rules a.value_type)) (signed op a.value_type a.constant) Y3 o h in
    signed_constant op a.value_type a.constant o p.1

at_prefix : {T : Type 0} (rules : TypeRules T) (op known : Operator) (literal : Bool) (a o : Operand T) → op ≡ known → unary_operand rules op literal a ≡ Ok o → unary_operand rules known literal a ≡ Ok o
at_prefix rules op known literal a o e h = subst (λ (p : Operator). unary_operand rules p literal a ≡ Ok o) e h

pub of_one : {T : Type 0} (rules : TypeRules T) (op : Operator) (literal : Bool) (a o : Operand T)
    → ((op ≡ operators.Plus) ⊎ ((op ≡ operators.Minus) ⊎ (op ≡ operators.Not))) → unary_operand rules op literal a ≡ Ok o → IsSome o.constant ↔ IsSome a.constant
of_one rules op literal a o (inl e) h = over_constant rules basics.Int operators.Plus a o (at_prefix rules op operators.Plus literal a o e h)
of_one rules op literal a o (inr (inl e)) h = over_constant rules basics.Int operators.Minus a o (at_prefix rules op operators.Minus literal a o e h)
of_one rules op literal a o (inr (inr e)) h = over_constant rules basics.Bool operators.Not a o (at_prefix rules op operators.Not literal a o e h)
