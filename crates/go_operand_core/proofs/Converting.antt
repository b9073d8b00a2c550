-- Conversions.
use Rattle.std.proofs.Common.{◌≡◌, Bool, true, false, IsOk, Option, Result, Ok, Err, if◌then◌else◌, refl, sym, ap, subst, ◌∙◌, ◌⊎◌, inl, inr}
use Rattle.std.proofs.lemmas.Bool.{and_from, and_parts, or_cases}
use Rattle.go_token_core.specs.text_core.declared.rule.Rule.{Rule}
use Rattle.go_token_core.specs.text_core.declared.rule.Rule.TheVariants.{C4, X1}
use Rattle.go_term_core.specs.declared.term.Basic.{Basic}
use Rattle.go_term_core.specs.declared.term.Basic.TheVariants as basics
use Rattle.go_operand_core.specs.declared.types.ValueType.{ValueType}
use Rattle.go_operand_core.specs.declared.types.ValueType.TheVariants as types
use Rattle.go_operand_core.specs.declared.types.Operand.{Operand}
use Rattle.go_operand_core.specs.TypeRules.{TypeRules}
use Rattle.go_operand_core.specs.Values.{is_over, form_basic, basic_under}
use Rattle.go_operand_core.specs.Assign.{assignable}
use Rattle.go_operand_core.specs.Operators.{value}
use Rattle.go_operand_core.specs.Conversions.{convertible, makes_text, kept, fits, convert}
use Rattle.go_operand_core.specs.Converting.{IsConvertible, by_assignment, by_types, MakesText, IsConverted}
use Rattle.go_operand_core.proofs.Relating.{assigned, assigns, left_or, right_or}
use Rattle.go_operand_core.proofs.Typing.{if_ok, accepted, type_of, constant_of}
use Rattle.go_operand_core.proofs.Known.{unless_both}
use Rattle.go_operand_core.proofs.Refusing.{over_itself, over_tells}

refute : (b : Bool) → (b ≡ true → ⊥) → b ≡ false
refute true never = absurd (never refl)
refute false never = refl

text_made : {T : Type 0} (rules : TypeRules T) (v : ValueType T) (t : T) → MakesText rules v t → makes_text rules v t ≡ true
text_made rules v t m =
    and_from (is_over basics.Int (basic_under rules v)) (is_over basics.Text (form_basic (rules.form t)))
    (over_itself basics.Int (basic_under rules v) m.integer) (over_itself basics.Text (form_basic (rules.form t)) m.text)

text_told : {T : Type 0} (rules : TypeRules T) (v : ValueType T) (t : T) → makes_text rules v t ≡ true → MakesText rules v t
text_told rules v t h =
    let p = and_parts (is_over basics.Int (basic_under rules v)) (is_over basics.Text (form_basic (rules.form t))) h in
    record { integer = over_tells basics.Int (basic_under rules v) p.0; text = over_tells basics.Text (form_basic (rules.form t)) p.1 }

by_the_types : {T : Type 0} (rules : TypeRules T) (v : ValueType T) (t : T) → convertible rules v t ≡ true → IsConvertible rules v t
by_the_types rules (types.Typed s) t h = by_types s refl h
by_the_types rules types.UntypedInt t h = absurd cc
by_the_types rules types.UntypedText t h = absurd cc
by_the_types rules types.UntypedBool t h = absurd cc
by_the_types rules types.Nil t h = absurd cc

fit_told : {T : Type 0} (rules : TypeRules T) (v : ValueType T) (t : T) → fits rules v t ≡ true → IsConvertible rules v t
fit_told rules v t h = by_either (or_cases (assignable rules v t) (convertible rules v t) h)
  where
    by_either : ((assignable rules v t ≡ true) ⊎ (convertible rules v t ≡ true)) → IsConvertible rules v t
    by_either (inl a) = by_assignment (assigned rules v t a)
    by_either (inr c) = by_the_types rules v t c

fit_made : {T : Type 0} (rules : TypeRules T) (v : ValueType T) (t : T) → IsConvertible rules v t → fits rules v t ≡ true
fit_made rules v t (by_assignment a) = left_or (assignable rules v t) (convertible rules v t) (assigns rules v t a)
fit_made {T = T} rules v t (by_types s k h) =
    let P : ValueType T → Type 0 = λ w. convertible rules w t ≡ true in
    right_or (assignable rules v t) (convertible rules v t) (subst P (sym k) h)

-- what a conversion that is allowed gives
abbrev given : {T : Type 0} → TypeRules T → Operand T → T → Operand T
given rules o t = value (types.Typed t) (kept (form_basic (rules.form t)) o.constant)

at_tests : {T : Type 0} (rules : TypeRules T) (o : Operand T) (t : T) (text fit : Bool) → makes_text rules o.value_type t ≡ text → fits rules o.value_type t ≡ fit
    → convert rules o t ≡ (if text then Err X1 else (if fit then Ok (given rules o t) else Err C4))
at_tests {T = T} rules o t text fit e f =
    let R : Result (Operand T) Rule = if text then Err X1 else (if fit then Ok (given rules o t) else Err C4) in
    let P : Bool → Type 0 = λ b. (if b then Err X1 else (if fits rules o.value_type t then Ok (given rules o t) else Err C4)) ≡ R in
    let Q : Bool → Type 0 = λ b. (if text then Err X1 else (if b then Ok (given rules o t) else Err C4)) ≡ R in
    subst P (sym e) (subst Q (sym f) refl)

pub integer_to_text : {T : Type 0} (rules : TypeRules T) (o : Operand T) (t : T) → MakesText rules o.value_type t → convert rules o t ≡ Err X1
integer_to_text rules o t m = at_tests rules o t true (fits rules o.value_type t) (text_made rules o.value_type t m) refl

no_text : {T : Type 0} (rules : TypeRules T) (v : ValueType T) (t : T) → (MakesText rules v t → ⊥) → makes_text rules v t ≡ false
no_text rules v t never = refute (makes_text rules v t) (λ h. never (text_told rules v t h))

pub refused : {T : Type 0} (rules : TypeRules T) (o : Operand T) (t : T) → (MakesText rules o.value_type t → ⊥) → (IsConvertible rules o.value_type t → ⊥) → convert rules o t ≡ Err C4
refused rules o t never none =
    at_tests rules o t false false (no_text rules o.value_type t never) (refute (fits rules o.value_type t) (λ h. none (fit_told rules o.value_type t h)))

pub accepts : {T : Type 0} (rules : TypeRules T) (o : Operand T) (t : T) → (MakesText rules o.value_type t → ⊥) → IsConvertible rules o.value_type t → IsOk (convert rules o t)
accepts {T = T} rules o t never some =
    let e = at_tests rules o t false true (no_text rules o.value_type t never) (fit_made rules o.value_type t some) in
    let P : Result (Operand T) Rule → Type 0 = λ r. IsOk r in
    subst P (sym e) refl

allowed : {T : Type 0} (rules : TypeRules T) (o p : Operand T) (t : T) → convert rules o t ≡ Ok p → (fits rules o.value_type t ≡ true) × (accepted (given rules o t) ≡ accepted p)
allowed {T = T} rules o p t h =
    let R : Result (Operand T) Rule = if fits rules o.value_type t then Ok (given rules o t) else Err C4 in
    let g = unless_both (makes_text rules o.value_type t) R X1 p h in
    if_ok (fits rules o.value_type t) (accepted (given rules o t)) C4 p g.1

pub was_convertible : {T : Type 0} (rules : TypeRules T) (o p : Operand T) (t : T) → convert rules o t ≡ Ok p → IsConvertible rules o.value_type t
was_convertible rules o p t h = let g = allowed rules o p t h in fit_told rules o.value_type t g.0

pub converted : {T : Type 0} (rules : TypeRules T) (o p : Operand T) (t : T) → convert rules o t ≡ Ok p → IsConverted rules o t p
converted {T = T} rules o p t h =
    let g = allowed rules o p t h in
    let told : given rules o t ≡ p = (let e = g.1 in cc) in
    let constant : p.constant ≡ kept (form_basic (rules.form t)) o.constant = constant_of (types.Typed t) (kept (form_basic (rules.form t)) o.constant) p g.1 in
    record {
      own_type = type_of (types.Typed t) (kept (form_basic (rules.form t)) o.constant) p g.1;
      no_variable = ap (λ (z : Operand T). z.addressable) (sym told);
      constant = λ b e. constant ∙ ap (λ (u : Option Basic). kept u o.constant) e;
      not_constant = λ e. constant ∙ ap (λ (u : Option Basic). kept u o.constant) e;
    }
