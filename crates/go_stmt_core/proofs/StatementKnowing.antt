-- What constants are declared as.
use Rattle.std.proofs.Common.{◌≡◌, ◌↔◌, ℕ, Bool, true, false, ◌&&◌, not, ◌==◌, [], ◌∷◌, length, refl, sym, ap, subst, ◌∙◌, ◌⊎◌, inl, inr}
use Rattle.std.specs.Prelude.{Option, Some, None, IfSome, is_some, if◌then◌else◌}
use Rattle.std.specs.List.{list_all}
use Rattle.std.proofs.lemmas.Bool.{and_parts, and_cases, and_left, and_right, eqb-true, eq-eqb}
use Rattle.go_constant_core.specs.text_core.declared.rule.Rule.{Rule}
use Rattle.go_constant_core.specs.text_core.declared.rule.Rule.TheVariants.{Y4, Y7}
use Rattle.go_constant_core.specs.declared.values.Constant.{Constant}
use Rattle.go_term_core.specs.declared.term.Basic.{Basic}
use Rattle.go_expr_core.specs.operand_core.declared.types.ValueType.{ValueType}
use Rattle.go_expr_core.specs.operand_core.declared.types.ValueType.TheVariants as value_types
use Rattle.go_expr_core.specs.operand_core.declared.types.TypeForm.{TypeForm}
use Rattle.go_expr_core.specs.operand_core.declared.types.TypeForm.TheVariants as forms
use Rattle.go_expr_core.specs.operand_core.declared.types.Operand.{Operand}
use Rattle.go_expr_core.specs.operand_core.TypeRules.{TypeRules}
use Rattle.go_expr_core.specs.operand_core.Values.{form_basic, basic_under}
use Rattle.go_expr_core.specs.operand_core.Assign.{assignable_to}
use Rattle.go_expr_core.specs.operand_core.Operators.{value}
use Rattle.go_expr_core.specs.operand_core.Conversions.{kept}
use Rattle.go_expr_core.specs.operand_core.Relations.{IsAssignable, by_type, nil_to_pointer, nil_to_interface, by_kind, by_default_type, IsValueOf}
use Rattle.go_expr_core.specs.operand_core.Known.{KeepsKinds, IsOfType, IsConstantOfItsType}
use Rattle.go_expr_core.specs.operand_core.KnownProofs.{under_untyped}
use Rattle.go_expr_core.specs.operand_core.Relating.{assigned, assigns}
use Rattle.go_expr_core.specs.denote_core.declared.things.Argument.{Argument}
use Rattle.go_expr_core.specs.denote_core.declared.things.Argument.TheVariants as arguments
use Rattle.go_stmt_core.specs.declared.statement.constants.ConstantAnswer.{ConstantAnswer}
use Rattle.go_stmt_core.specs.statement.Constants.{is_constant_value, is_constant, constants_rule, answer, operand_constant, own_value, answer_of_value, of_basic_type, of_type, constant_answer}
use Rattle.go_stmt_core.specs.statement.Relations.{IsConstant, IsDeclaredAs, of_expression, of_written_type, of_no_type as declared_of_no_type, of_refused, of_refused_no_type, of_refused_typed, IsNoConstant, other_type, no_value, variable, other_value, IsOfOtherType}
use Rattle.go_stmt_core.specs.statement.Laws.{ConstantsAreDeclared}

-- constants over bool, int or string

kept_is : (b : Option Basic) (c : Option Constant) (k : Constant) → kept b c ≡ Some k → (c ≡ Some k) × ((basic : Basic) × (b ≡ Some basic))
kept_is (Some basic) c k h = (h, (basic, refl))
kept_is None c k h = absurd cc

constant_is : {T : Type 0} (rules : TypeRules T) (o : Operand T) (k : Constant) → operand_constant rules o ≡ Some k → IsConstant rules (arguments.«Value» o) o k
constant_is rules o k h =
    let p = kept_is (basic_under rules o.value_type) o.constant k h in
    record { given_is = refl; constant_is = p.0; basic = p.1.0; over = p.1.1 }

is_kept : {T : Type 0} (rules : TypeRules T) (given : Argument T) (o : Operand T) (k : Constant) → IsConstant rules given o k → operand_constant rules o ≡ Some k
is_kept rules given o k h = ap (λ b. kept b o.constant) h.over ∙ h.constant_is

not_kept : (b : Option Basic) (c : Option Constant) → kept b c ≡ None → (c ≡ None) ⊎ (b ≡ None)
not_kept (Some basic) c h = inl h
not_kept None c h = inr refl

none_of : {X : Type 0} (o : Option X) → is_some o ≡ false → o ≡ None
none_of None h = refl
none_of (Some x) h = absurd cc

some_of : {X : Type 0} (o : Option X) → is_some o ≡ true → (x : X) × (o ≡ Some x)
some_of None h = absurd cc
some_of (Some x) h = (x, refl)

value_constant : {T : Type 0} (rules : TypeRules T) (o : Operand T) → is_constant_value rules o ≡ true → (k : Constant) × IsConstant rules (arguments.«Value» o) o k
value_constant rules o h =
    let p = and_parts (is_some o.constant) (is_some (basic_under rules o.value_type)) h in
    let c = some_of o.constant p.0 in
    let b = some_of (basic_under rules o.value_type) p.1 in
    (c.0, record { given_is = refl; constant_is = c.1; basic = b.0; over = b.1 })

constant_value : {T : Type 0} (rules : TypeRules T) (given : Argument T) (o : Operand T) (k : Constant) → IsConstant rules given o k → is_constant_value rules o ≡ true
constant_value rules given o k h = ap (λ c. is_some c && is_some (basic_under rules o.value_type)) h.constant_is ∙ ap is_some h.over

-- where no rule is broken

own_is : {T : Type 0} (v : ValueType T) (c : Option Constant) → (own_value v c).rule ≡ None → (k : Constant) × ((c ≡ Some k) × ((own_value v c).value ≡ Some (value v (Some k))))
own_is v None h = absurd cc
own_is v (Some k) h = (k, (refl, refl))

abbrev seventh : Bool → Option Rule
seventh b = if b then None else Some Y7

seventh_none : (b : Bool) → seventh b ≡ None → b ≡ true
seventh_none true h = refl
seventh_none false h = absurd cc

seventh_some : (b : Bool) → seventh b ≡ Some Y7 → b ≡ false
seventh_some true h = absurd cc
seventh_some false h = refl

typed_is : {T : Type 0} (t : T) (fits : Bool) (c : Option Constant) → (answer_of_value t fits c).rule ≡ None
    → (fits ≡ true) × ((k : Constant) × ((c ≡ Some k) × ((answer_of_value t fits c).value ≡ Some (value (value_types.Typed t) (Some k)))))
typed_is t fits None h = absurd cc
typed_is t true (Some k) h = (refl, (k, (refl, refl)))
typed_is t false (Some k) h = absurd cc

of_form : {T : Type 0} (rules : TypeRules T) (t : T) (f : TypeForm T) (given : Argument T) → rules.form t ≡ f → (of_type rules t (form_basic f) given).rule ≡ None
    → IsDeclaredAs rules (Some (Some t)) given (of_type rules t (form_basic f) given).value
of_form rules t (forms.Basic b) arguments.Refused e h = of_refused_typed t b refl e refl refl
of_form rules t (forms.Basic b) arguments.Void e h = absurd cc
of_form rules t (forms.Basic b) (arguments.«Value» o) e h =
    let p = typed_is t (assignable_to rules o t) (operand_constant rules o) h in
    of_written_type t b o p.1.0 refl e (constant_is rules o p.1.0 p.1.1.0) (assigned rules o.value_type t p.0) p.1.1.1
of_form rules t forms.Nothing given e h = absurd cc
of_form rules t (forms.Pointer u) given e h = absurd cc
of_form rules t forms.Struct given e h = absurd cc
of_form rules t forms.Interface given e h = absurd cc

declared_so : {T : Type 0} (rules : TypeRules T) (written : Option (Option T)) (given : Argument T) → (constant_answer rules written given).rule ≡ None
    → IsDeclaredAs rules written given (constant_answer rules written given).value
declared_so rules None arguments.Refused h = of_refused refl refl refl
declared_so rules None arguments.Void h = absurd cc
declared_so rules None (arguments.«Value» o) h =
    let p = own_is o.value_type (operand_constant rules o) h in
    of_expression o p.0 refl (constant_is rules o p.0 p.1.0) p.1.1
declared_so rules (Some None) arguments.Refused h = of_refused_no_type refl refl refl
declared_so rules (Some None) arguments.Void h = absurd cc
declared_so rules (Some None) (arguments.«Value» o) h =
    let p = value_constant rules o (seventh_none (is_constant_value rules o) h) in
    declared_of_no_type o p.0 refl p.1 refl
declared_so rules (Some (Some t)) given h = of_form rules t (rules.form t) given refl h

declared : {T : Type 0} (rules : TypeRules T) (written : Option (Option T)) (given : Argument T) (d : Option (Operand T)) → constant_answer rules written given ≡ answer d None
    → IsDeclaredAs rules written given d
declared {T} rules written given d h =
    let P : Option (Operand T) → Type 0 = λ v. IsDeclaredAs rules written given v in
    subst P (ap (λ (a : ConstantAnswer T). a.value) h) (declared_so rules written given (ap (λ (a : ConstantAnswer T). a.rule) h))

-- an answer of what is known of its type and its expression
by_parts : {T : Type 0} (rules : TypeRules T) (written other : Option (Option T)) (given argument : Argument T) → written ≡ other → given ≡ argument
    → constant_answer rules written given ≡ constant_answer rules other argument
by_parts rules written other given argument e k = ap (λ w. constant_answer rules w given) e ∙ ap (λ g. constant_answer rules other g) k

basic_form : {T : Type 0} (rules : TypeRules T) (t : T) (b : Basic) (given : Argument T) → rules.form t ≡ forms.Basic b → constant_answer rules (Some (Some t)) given ≡ of_basic_type rules t given
basic_form rules t b given e = ap (λ f. of_type rules t (form_basic f) given) e

declares : {T : Type 0} (rules : TypeRules T) (written : Option (Option T)) (given : Argument T) (d : Option (Operand T)) → IsDeclaredAs rules written given d
    → constant_answer rules written given ≡ answer d None
declares rules written given d (of_expression o k e c is) =
    by_parts rules written None given (arguments.«Value» o) e c.given_is ∙ (ap (own_value o.value_type) (is_kept rules given o k c) ∙ ap (λ v. answer v None) (sym is))
declares rules written given d (of_written_type t b o k e f c a is) =
    by_parts rules written (Some (Some t)) given (arguments.«Value» o) e c.given_is
    ∙ (basic_form rules t b (arguments.«Value» o) f
    ∙ (ap (λ fits. answer_of_value t fits (operand_constant rules o)) (assigns rules o.value_type t a)
    ∙ (ap (answer_of_value t true) (is_kept rules given o k c) ∙ ap (λ v. answer v None) (sym is))))
declares rules written given d (declared_of_no_type o k e c is) =
    by_parts rules written (Some None) given (arguments.«Value» o) e c.given_is
    ∙ (ap (λ b. answer None (if b then None else Some Y7)) (constant_value rules given o k c) ∙ ap (λ v. answer v None) (sym is))
declares rules written given d (of_refused e g is) = by_parts rules written None given arguments.Refused e g ∙ ap (λ v. answer v None) (sym is)
declares rules written given d (of_refused_no_type e g is) = by_parts rules written (Some None) given arguments.Refused e g ∙ ap (λ v. answer v None) (sym is)
declares rules written given d (of_refused_typed t b e f g is) =
    by_parts rules written (Some (Some t)) given arguments.Refused e g ∙ (basic_form rules t b arguments.Refused f ∙ ap (λ v. answer v None) (sym is))

-- Y7

no_own : {T : Type 0} (v : ValueType T) (c : Option Constant) → (own_value v c).rule ≡ Some Y7 → c ≡ None
no_own v None h = refl
no_own v (Some k) h = absurd cc

no_typed : {T : Type 0} (t : T) (fits : Bool) (c : Option Constant) → (answer_of_value t fits c).rule ≡ Some Y7 → c ≡ None
no_typed t fits None h = refl
no_typed t true (Some k) h = absurd cc
no_typed t false (Some k) h = absurd cc

unknown_value : {T : Type 0} (rules : TypeRules T) (written : Option (Option T)) (o : Operand T) → operand_constant rules o ≡ None → IsNoConstant rules written (arguments.«Value» o)
unknown_value rules written o h = elim (not_kept (basic_under rules o.value_type) o.constant h) [
  | inl e ↦ variable o refl e
  | inr e ↦ other_value o refl e
]

no_form : {T : Type 0} (rules : TypeRules T) (t : T) (f : TypeForm T) (given : Argument T) → rules.form t ≡ f → (of_type rules t (form_basic f) given).rule ≡ Some Y7
    → IsNoConstant rules (Some (Some t)) given
no_form rules t (forms.Basic b) arguments.Refused e h = absurd cc
no_form rules t (forms.Basic b) arguments.Void e h = no_value refl
no_form rules t (forms.Basic b) (arguments.«Value» o) e h = unknown_value rules (Some (Some t)) o (no_typed t (assignable_to rules o t) (operand_constant rules o) h)
no_form rules t forms.Nothing given e h = other_type t refl (ap form_basic e)
no_form rules t (forms.Pointer u) given e h = other_type t refl (ap form_basic e)
no_form rules t forms.Struct given e h = other_type t refl (ap form_basic e)
no_form rules t forms.Interface given e h = other_type t refl (ap form_basic e)

not_constant : {T : Type 0} (rules : TypeRules T) (written : Option (Option T)) (given : Argument T) → (constant_answer rules written given).rule ≡ Some Y7 → IsNoConstant rules written given
not_constant rules None arguments.Refused h = absurd cc
not_constant rules None arguments.Void h = no_value refl
not_constant rules None (arguments.«Value» o) h = unknown_value rules None o (no_own o.value_type (operand_constant rules o) h)
not_constant rules (Some None) arguments.Refused h = absurd cc
not_constant rules (Some None) arguments.Void h = no_value refl
not_constant rules (Some None) (arguments.«Value» o) h =
    elim (and_cases (is_some o.constant) (is_some (basic_under rules o.value_type)) (seventh_some (is_constant_value rules o) h)) [
      | inl e ↦ variable o refl (none_of o.constant e)
      | inr e ↦ other_value o refl (none_of (basic_under rules o.value_type) e)
    ]
not_constant rules (Some (Some t)) given h = no_form rules t (rules.form t) given refl h

void_typed : {T : Type 0} (rules : TypeRules T) (t : T) (b : Option Basic) → (of_type rules t b arguments.Void).rule ≡ Some Y7
void_typed rules t None = refl
void_typed rules t (Some b) = refl

void_rule : {T : Type 0} (rules : TypeRules T) (written : Option (Option T)) → (constant_answer rules written arguments.Void).rule ≡ Some Y7
void_rule rules None = refl
void_rule rules (Some None) = refl
void_rule rules (Some (Some t)) = void_typed rules t (form_basic (rules.form t))

other_typed : {T : Type 0} (rules : TypeRules T) (t : T) (b : Option Basic) (o : Operand T) → operand_constant rules o ≡ None → (of_type rules t b (arguments.«Value» o)).rule ≡ Some Y7
other_typed rules t None o h = refl
other_typed rules t (Some b) o h = ap (λ c. (answer_of_value t (assignable_to rules o t) c).rule) h

other_rule : {T : Type 0} (rules : TypeRules T) (written : Option (Option T)) (o : Operand T) → operand_constant rules o ≡ None → is_constant_value rules o ≡ false
    → (constant_answer rules written (arguments.«Value» o)).rule ≡ Some Y7
other_rule rules None o h k = ap (λ c. (own_value o.value_type c).rule) h
other_rule rules (Some None) o h k = ap (λ b. if b then None else Some Y7) k
other_rule rules (Some (Some t)) o h k = other_typed rules t (form_basic (rules.form t)) o h

kept_none : (b : Option Basic) → kept b None ≡ None
kept_none None = refl
kept_none (Some b) = refl

breaks_seventh : {T : Type 0} (rules : TypeRules T) (written : Option (Option T)) (given : Argument T) → IsNoConstant rules written given → (constant_answer rules written given).rule ≡ Some Y7
breaks_seventh rules written given (other_type t e f) = ap (λ w. (constant_answer rules w given).rule) e ∙ ap (λ b. (of_type rules t b given).rule) f
breaks_seventh rules written given (no_value g) = ap (λ a. (constant_answer rules written a).rule) g ∙ void_rule rules written
breaks_seventh rules written given (variable o g c) =
    ap (λ a. (constant_answer rules written a).rule) g
    ∙ other_rule rules written o (ap (kept (basic_under rules o.value_type)) c ∙ kept_none (basic_under rules o.value_type)) (and_left (is_some o.constant) (is_some (basic_under rules o.value_type)) (ap is_some c))
breaks_seventh rules written given (other_value o g b) =
    ap (λ a. (constant_answer rules written a).rule) g
    ∙ other_rule rules written o (ap (λ x. kept x o.constant) b) (and_right (is_some o.constant) (is_some (basic_under rules o.value_type)) (ap is_some b))

-- Y4

misfit : {T : Type 0} (t : T) (fits : Bool) (c : Option Constant) → (answer_of_value t fits c).rule ≡ Some Y4 → (fits ≡ false) × ((k : Constant) × (c ≡ Some k))
misfit t fits None h = absurd cc
misfit t true (Some k) h = absurd cc
misfit t false (Some k) h = (refl, (k, refl))

other_form : {T : Type 0} (rules : TypeRules T) (t : T) (f : TypeForm T) (given : Argument T) → rules.form t ≡ f → (of_type rules t (form_basic f) given).rule ≡ Some Y4
    → IsOfOtherType rules (Some (Some t)) given
other_form rules t (forms.Basic b) arguments.Refused e h = absurd cc
other_form rules t (forms.Basic b) arguments.Void e h = absurd cc
other_form rules t (forms.Basic b) (arguments.«Value» o) e h =
    let p = misfit t (assignable_to rules o t) (operand_constant rules o) h in
    record {
      t = t;
      written_is = refl;
      basic = b;
      form_is = e;
      o = o;
      k = p.1.0;
      constant = constant_is rules o p.1.0 p.1.1;
      not_assignable = λ a. (let yes_and_no : true ≡ false = sym (assigns rules o.value_type t a) ∙ p.0 in absurd cc);
    }
other_form rules t forms.Nothing given e h = absurd cc
other_form rules t (forms.Pointer u) given e h = absurd cc
other_form rules t forms.Struct given e h = absurd cc
other_form rules t forms.Interface given e h = absurd cc

no_fourth : {T : Type 0} (v : ValueType T) (c : Option Constant) → (own_value v c).rule ≡ Some Y4 → ⊥
no_fourth v None h = absurd cc
no_fourth v (Some k) h = absurd cc

seventh_fourth : (b : Bool) → seventh b ≡ Some Y4 → ⊥
seventh_fourth true h = absurd cc
seventh_fourth false h = absurd cc

of_other : {T : Type 0} (rules : TypeRules T) (written : Option (Option T)) (given : Argument T) → (constant_answer rules written given).rule ≡ Some Y4 → IsOfOtherType rules written given
of_other rules None arguments.Refused h = absurd cc
of_other rules None arguments.Void h = absurd cc
of_other rules None (arguments.«Value» o) h = absurd (no_fourth o.value_type (operand_constant rules o) h)
of_other rules (Some None) arguments.Refused h = absurd cc
of_other rules (Some None) arguments.Void h = absurd cc
of_other rules (Some None) (arguments.«Value» o) h = absurd (seventh_fourth (is_constant_value rules o) h)
of_other rules (Some (Some t)) given h = other_form rules t (rules.form t) given refl h

unless_assigned : {T : Type 0} (rules : TypeRules T) (o : Operand T) (t : T) → (IsAssignable rules o.value_type t → ⊥) → (fits : Bool) → assignable_to rules o t ≡ fits → fits ≡ false
unless_assigned rules o t n true e = absurd (n (assigned rules o.value_type t e))
unless_assigned rules o t n false e = refl

breaks_fourth : {T : Type 0} (rules : TypeRules T) (written : Option (Option T)) (given : Argument T) → IsOfOtherType rules written given → (constant_answer rules written given).rule ≡ Some Y4
breaks_fourth rules written given h =
    ap (λ a. a.rule) (by_parts rules written (Some (Some h.t)) given (arguments.«Value» h.o) h.written_is h.constant.given_is ∙ basic_form rules h.t h.basic (arguments.«Value» h.o) h.form_is)
    ∙ (ap (λ fits. (answer_of_value h.t fits (operand_constant rules h.o)).rule) (unless_assigned rules h.o h.t h.not_assignable (assignable_to rules h.o h.t) refl)
    ∙ ap (λ c. (answer_of_value h.t false c).rule) (is_kept rules given h.o h.k h.constant))

-- no other rule

own_only : {T : Type 0} (v : ValueType T) (c : Option Constant) → IfSome (own_value v c).rule (λ rule. (rule ≡ Y4) ⊎ (rule ≡ Y7))
own_only v None = inr refl
own_only v (Some k) = tt

seventh_only : (b : Bool) → IfSome (seventh b) (λ rule. (rule ≡ Y4) ⊎ (rule ≡ Y7))
seventh_only true = tt
seventh_only false = inr refl

typed_only : {T : Type 0} (t : T) (fits : Bool) (c : Option Constant) → IfSome (answer_of_value t fits c).rule (λ rule. (rule ≡ Y4) ⊎ (rule ≡ Y7))
typed_only t fits None = inr refl
typed_only t true (Some k) = tt
typed_only t false (Some k) = inl refl

form_only : {T : Type 0} (rules : TypeRules T) (t : T) (b : Option Basic) (given : Argument T) → IfSome (of_type rules t b given).rule (λ rule. (rule ≡ Y4) ⊎ (rule ≡ Y7))
form_only rules t None given = inr refl
form_only rules t (Some b) arguments.Refused = tt
form_only rules t (Some b) arguments.Void = inr refl
form_only rules t (Some b) (arguments.«Value» o) = typed_only t (assignable_to rules o t) (operand_constant rules o)

answer_only : {T : Type 0} (rules : TypeRules T) (written : Option (Option T)) (given : Argument T) → IfSome (constant_answer rules written given).rule (λ rule. (rule ≡ Y4) ⊎ (rule ≡ Y7))
answer_only rules None arguments.Refused = tt
answer_only rules None arguments.Void = inr refl
answer_only rules None (arguments.«Value» o) = own_only o.value_type (operand_constant rules o)
answer_only rules (Some None) arguments.Refused = tt
answer_only rules (Some None) arguments.Void = inr refl
answer_only rules (Some None) (arguments.«Value» o) = seventh_only (is_constant_value rules o)
answer_only rules (Some (Some t)) given = form_only rules t (form_basic (rules.form t)) given

-- constants are of their types

same_basic : {T : Type 0} (rules : TypeRules T) (v : ValueType T) (t : T) (b c : Basic) → KeepsKinds rules → rules.form t ≡ forms.Basic b → basic_under rules v ≡ Some c
    → IsAssignable rules v t → c ≡ b
same_basic rules v t b c keeps f u (by_type s e h) = keeps.assignable_alike s t c b h (sym (ap (basic_under rules) e) ∙ u) (ap form_basic f)
same_basic rules v t b c keeps f u (nil_to_pointer base e g) = let n : None ≡ Some c = sym (ap (basic_under rules) e) ∙ u in absurd cc
same_basic rules v t b c keeps f u (nil_to_interface e g) = let n : None ≡ Some c = sym (ap (basic_under rules) e) ∙ u in absurd cc
same_basic rules v t b c keeps f u (by_kind a e g) =
    let n : Some a ≡ Some c = sym (under_untyped rules a) ∙ (sym (ap (basic_under rules) e) ∙ u) in
    let m : Some a ≡ Some b = sym (ap form_basic g) ∙ ap form_basic f in
    cc
same_basic rules v t b c keeps f u (by_default_type a e g h) = let m : None ≡ Some b = sym (ap form_basic g) ∙ ap form_basic f in absurd cc

whole : {T : Type 0} (rules : TypeRules T) (written : Option (Option T)) (o v : Operand T) → KeepsKinds rules → IsConstantOfItsType rules o → IsDeclaredAs rules written (arguments.«Value» o) (Some v) → IsConstantOfItsType rules v
whole {T} rules written o v keeps w (of_expression p k e c is) =
    let same : o ≡ p = (let g = c.given_is in cc) in
    let here : v ≡ value p.value_type (Some k) = cc in
    let P : Option Constant → Type 0 = λ x. IsOfType rules p.value_type x in
    let Q : Operand T → Type 0 = λ x. IsConstantOfItsType rules x in
    subst Q (sym here) (subst P c.constant_is (subst Q same w))
whole {T} rules written o v keeps w (of_written_type t b p k e f c a is) =
    let same : o ≡ p = (let g = c.given_is in cc) in
    let here : v ≡ value (value_types.Typed t) (Some k) = cc in
    let P : Option Constant → Type 0 = λ x. IsOfType rules p.value_type x in
    let Q : Operand T → Type 0 = λ x. IsConstantOfItsType rules x in
    let known = subst P c.constant_is (subst Q same w) in
    let R : Basic → Type 0 = λ x. IsValueOf x k in
    subst Q (sym here) (b, (ap form_basic f, subst R (same_basic rules p.value_type t b known.0 keeps f known.1.0 a) known.1.1))
whole rules written o v keeps w (declared_of_no_type p k e c is) = absurd cc
whole rules written o v keeps w (of_refused e g is) = absurd cc
whole rules written o v keeps w (of_refused_no_type e g is) = absurd cc
whole rules written o v keeps w (of_refused_typed t b e f g is) = absurd cc

-- counts

fourth_none : (b : Bool) → (if b then None else Some Y4) ≡ None → b ≡ true
fourth_none true h = refl
fourth_none false h = absurd cc

by_count : (m n : ℕ) → ((if m == n then None else Some Y4) ≡ None) ↔ (m ≡ n)
by_count m n = ((λ h. eqb-true m n (fourth_none (m == n) h)), (λ e. ap (λ b. if b then None else Some Y4) (eq-eqb m n e)))

lone : {T : Type 0} (rules : TypeRules T) (count : ℕ) (given : Argument T) (o : Operand T) (k : Constant) → IsConstant rules given o k
    → constants_rule rules true count (given ∷ []) ≡ (if count == 1 then None else Some Y4)
lone rules count given o k h =
    let known : is_constant rules given ≡ true = ap (is_constant rules) h.given_is ∙ constant_value rules given o k h in
    ap (λ b. if true && not (b && true) then None else (if count == 1 then None else Some Y4)) known

lone_count : {T : Type 0} (rules : TypeRules T) (count : ℕ) (given : Argument T) (o : Operand T) (k : Constant) → IsConstant rules given o k
    → (constants_rule rules true count (given ∷ []) ≡ None) ↔ (count ≡ 1)
lone_count rules count given o k h = ((λ r. (by_count count 1).0 (sym (lone rules count given o k h) ∙ r)), (λ e. lone rules count given o k h ∙ (by_count count 1).1 e))

count_only : (free same : Bool) → IfSome (if free then None else (if same then None else Some Y4)) (λ rule. rule ≡ Y4)
count_only true same = tt
count_only false true = tt
count_only false false = refl

pub constants : {T : Type 0} → ConstantsAreDeclared T
constants = record {
  stands = λ rules written given d. (declared rules written given d, declares rules written given d);
  no_constant = λ rules written given. (not_constant rules written given, breaks_seventh rules written given);
  of_other_type = λ rules written given. (of_other rules written given, breaks_fourth rules written given);
  only = answer_only;
  of_its_type = λ rules written o v keeps w h. whole rules written o v keeps w (declared rules written (arguments.«Value» o) (Some v) h);
  counted = λ rules count given. by_count count (length given);
  lone_constant = lone_count;
  only_count = λ rules is_lone_call count given. count_only (is_lone_call && not (list_all (is_constant rules) given)) (count == length given);
}
