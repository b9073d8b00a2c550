-- Assignments stand exactly where each left side takes its own value.
use Rattle.std.proofs.Common.{◌≡◌, Bool, true, false, ◌==◌, List, length, refl, ap, ◌∙◌}
use Rattle.std.specs.Prelude.{◌≢◌, Option, Some, None, IfSome, if◌then◌else◌}
use Rattle.std.specs.List.{list_all}
use Rattle.go_constant_core.specs.text_core.declared.rule.Rule.{Rule}
use Rattle.go_constant_core.specs.text_core.declared.rule.Rule.TheVariants.{Y3, Y4}
use Rattle.go_expr_core.specs.operand_core.declared.types.ValueType.{ValueType}
use Rattle.go_expr_core.specs.operand_core.declared.types.ValueType.TheVariants as value_types
use Rattle.go_expr_core.specs.operand_core.TypeRules.{TypeRules}
use Rattle.go_expr_core.specs.operand_core.Relating.{assigned, assigns}
use Rattle.go_expr_core.specs.denote_core.declared.things.Denoted.{Denoted}
use Rattle.go_expr_core.specs.denote_core.declared.things.Denoted.TheVariants as denotes
use Rattle.go_expr_core.specs.denote_core.declared.things.Argument.{Argument}
use Rattle.go_expr_core.specs.denote_core.declared.things.Argument.TheVariants as arguments
use Rattle.go_expr_core.specs.denote_core.Arguments.{is_refused, single_rule}
use Rattle.go_stmt_core.specs.declared.statement.targets.Target.{Target}
use Rattle.go_stmt_core.specs.declared.statement.targets.Target.TheVariants as targets
use Rattle.go_stmt_core.specs.statement.Targets.{target_of_value, target_of}
use Rattle.go_stmt_core.specs.statement.Assignments.{has_type, takes_argument, is_left_side, all_pairs, assignment_rule}
use Rattle.go_stmt_core.specs.statement.Relations.{Takes, to_operand, to_blank, to_new, to_typeless, of_refused, IsAssigned}
use Rattle.go_stmt_core.specs.statement.Laws.{AssignmentsStand, TargetsAreAddressable}
use Rattle.go_stmt_core.proofs.StatementPairing.{all_each, each_all, counted, corresponds, corresponded}

-- targets and values

typed_is : {T : Type 0} (v : ValueType T) → has_type v ≡ true → v ≢ value_types.Nil
typed_is (value_types.Typed t) h k = absurd cc
typed_is value_types.UntypedInt h k = absurd cc
typed_is value_types.UntypedText h k = absurd cc
typed_is value_types.UntypedBool h k = absurd cc
typed_is value_types.Nil h k = absurd cc

is_typed : {T : Type 0} (v : ValueType T) → v ≢ value_types.Nil → has_type v ≡ true
is_typed (value_types.Typed t) h = refl
is_typed value_types.UntypedInt h = refl
is_typed value_types.UntypedText h = refl
is_typed value_types.UntypedBool h = refl
is_typed value_types.Nil h = absurd (h refl)

pub taken : {T : Type 0} (rules : TypeRules T) (target : Target T) (argument : Argument T) → takes_argument rules target argument ≡ true → Takes rules target argument
taken rules targets.Blank arguments.Refused h = of_refused (λ e. absurd cc) refl
taken rules targets.Blank arguments.Void h = absurd cc
taken rules targets.Blank (arguments.«Value» o) h = to_blank o refl refl (typed_is o.value_type h)
taken rules targets.New arguments.Refused h = of_refused (λ e. absurd cc) refl
taken rules targets.New arguments.Void h = absurd cc
taken rules targets.New (arguments.«Value» o) h = to_new o refl refl (typed_is o.value_type h)
taken rules (targets.Variable t) arguments.Refused h = of_refused (λ e. absurd cc) refl
taken rules (targets.Variable t) arguments.Void h = absurd cc
taken rules (targets.Variable t) (arguments.«Value» o) h = to_operand t o refl refl (assigned rules o.value_type t h)
taken rules targets.Typeless argument h = to_typeless refl
taken rules targets.Fixed argument h = absurd cc

refused_taken : {T : Type 0} (rules : TypeRules T) (target : Target T) → target ≢ targets.Fixed → takes_argument rules target arguments.Refused ≡ true
refused_taken rules targets.Blank h = refl
refused_taken rules targets.New h = refl
refused_taken rules (targets.Variable t) h = refl
refused_taken rules targets.Typeless h = refl
refused_taken rules targets.Fixed h = absurd (h refl)

-- of two that are known
known_pair : {T : Type 0} (rules : TypeRules T) (target other : Target T) (argument given : Argument T) → target ≡ other → argument ≡ given → takes_argument rules other given ≡ true → takes_argument rules target argument ≡ true
known_pair rules target other argument given e k h = ap (λ t. takes_argument rules t argument) e ∙ (ap (λ a. takes_argument rules other a) k ∙ h)

pub takes_it : {T : Type 0} (rules : TypeRules T) (target : Target T) (argument : Argument T) → Takes rules target argument → takes_argument rules target argument ≡ true
takes_it rules target argument (to_operand t o e k h) = known_pair rules target (targets.Variable t) argument (arguments.«Value» o) e k (assigns rules o.value_type t h)
takes_it rules target argument (to_blank o e k h) = known_pair rules target targets.Blank argument (arguments.«Value» o) e k (is_typed o.value_type h)
takes_it rules target argument (to_new o e k h) = known_pair rules target targets.New argument (arguments.«Value» o) e k (is_typed o.value_type h)
takes_it rules target argument (to_typeless e) = ap (λ t. takes_argument rules t argument) e
takes_it rules target argument (of_refused e k) = ap (λ a. takes_argument rules target a) k ∙ refused_taken rules target e

left_side : {T : Type 0} (target : Target T) → is_left_side target ≡ true → target ≢ targets.Fixed
left_side targets.Blank h k = absurd cc
left_side targets.New h k = absurd cc
left_side (targets.Variable t) h k = absurd cc
left_side targets.Typeless h k = absurd cc
left_side targets.Fixed h k = absurd cc

is_left : {T : Type 0} (target : Target T) → target ≢ targets.Fixed → is_left_side target ≡ true
is_left targets.Blank h = refl
is_left targets.New h = refl
is_left (targets.Variable t) h = refl
is_left targets.Typeless h = refl
is_left targets.Fixed h = absurd (h refl)

-- assignments

abbrev judged : Bool → Bool → Option Rule → Option Rule
judged left is_free rule = if left then (if is_free then None else rule) else Some Y4

judged_left : (left is_free : Bool) (rule : Option Rule) → judged left is_free rule ≡ None → left ≡ true
judged_left true is_free rule h = refl
judged_left false is_free rule h = absurd cc

judged_rule : (left is_free : Bool) (rule : Option Rule) → judged left is_free rule ≡ None → is_free ≡ false → rule ≡ None
judged_rule true true rule h k = absurd cc
judged_rule true false rule h k = h
judged_rule false is_free rule h k = absurd cc

judged_well : (left is_free : Bool) (rule : Option Rule) → left ≡ true → (is_free ≡ false → rule ≡ None) → judged left is_free rule ≡ None
judged_well true true rule h k = refl
judged_well true false rule h k = k refl
judged_well false is_free rule h k = absurd cc

judged_only : (left is_free same pairs : Bool) → IfSome (judged left is_free (counted same pairs)) (λ rule. rule ≡ Y4)
judged_only true true same pairs = tt
judged_only true false true true = tt
judged_only true false true false = refl
judged_only true false false pairs = refl
judged_only false is_free same pairs = refl

pub assignment_only : {T : Type 0} (rules : TypeRules T) (ts : List (Target T)) (is_free : Bool) (given : List (Argument T)) → IfSome (assignment_rule rules ts is_free given) (λ rule. rule ≡ Y4)
assignment_only rules ts is_free given = judged_only (list_all is_left_side ts) is_free (length ts == length given) (all_pairs (takes_argument rules) ts given)

assignment_stands : {T : Type 0} (rules : TypeRules T) (ts : List (Target T)) (is_free : Bool) (given : List (Argument T)) → assignment_rule rules ts is_free given ≡ None → IsAssigned rules ts is_free given
assignment_stands rules ts is_free given h =
    let left = list_all is_left_side ts in
    let rule = counted (length ts == length given) (all_pairs (takes_argument rules) ts given) in
    record {
      left_sides = λ i target e. left_side target (all_each is_left_side ts (judged_left left is_free rule h) i target e);
      values = λ k. corresponds (takes_argument rules) (Takes rules) (taken rules) ts given (judged_rule left is_free rule h k);
    }

stands_assigned : {T : Type 0} (rules : TypeRules T) (ts : List (Target T)) (is_free : Bool) (given : List (Argument T)) → IsAssigned rules ts is_free given → assignment_rule rules ts is_free given ≡ None
stands_assigned rules ts is_free given h =
    judged_well (list_all is_left_side ts) is_free (counted (length ts == length given) (all_pairs (takes_argument rules) ts given))
    (each_all is_left_side ts (λ i target e. is_left target (h.left_sides i target e)))
    (λ k. corresponded (takes_argument rules) (Takes rules) (takes_it rules) ts given (h.values k))

pub assignments : {T : Type 0} → AssignmentsStand T
assignments = record {
  stands = λ rules ts is_free given. (assignment_stands rules ts is_free given, stands_assigned rules ts is_free given);
  only = assignment_only;
}

-- what expressions are as targets

value_variable : {T : Type 0} (p : Bool) (v : ValueType T) (t : T) → target_of_value p v ≡ targets.Variable t → (p ≡ true) × (v ≡ value_types.Typed t)
value_variable true (value_types.Typed s) t h = let e : s ≡ t = cc in (refl, ap value_types.Typed e)
value_variable true value_types.UntypedInt t h = absurd cc
value_variable true value_types.UntypedText t h = absurd cc
value_variable true value_types.UntypedBool t h = absurd cc
value_variable true value_types.Nil t h = absurd cc
value_variable false v t h = absurd cc

variable_value : {T : Type 0} (p : Bool) (v : ValueType T) (t : T) → (p ≡ true) × (v ≡ value_types.Typed t) → target_of_value p v ≡ targets.Variable t
variable_value p v t h = ap (λ b. target_of_value b v) h.0 ∙ ap (λ w. target_of_value true w) h.1

fixed_value : {T : Type 0} (p : Bool) (v : ValueType T) → p ≡ false → target_of_value p v ≡ targets.Fixed
fixed_value p v h = ap (λ b. target_of_value b v) h

no_single : {T S D : Type 0} (denoted : Denoted T S D) → single_rule denoted ≡ Some Y3 → (target_of denoted true ≡ targets.Fixed) × (target_of denoted false ≡ targets.Typeless)
no_single (denotes.Several s) h = (refl, refl)
no_single denotes.Nothing h = (refl, refl)
no_single (denotes.«Value» o) h = absurd cc
no_single denotes.Refused h = absurd cc
no_single denotes.Typeless h = absurd cc
no_single (denotes.«Package» d) h = absurd cc
no_single (denotes.«Type» d t) h = absurd cc
no_single (denotes.Func d s) h = absurd cc
no_single (denotes.Builtin d b) h = absurd cc

refused_target : {T S D : Type 0} (denoted : Denoted T S D) (is_alone : Bool) → is_refused denoted ≡ true → target_of denoted is_alone ≡ targets.Typeless
refused_target denotes.Refused is_alone h = refl
refused_target denotes.Typeless is_alone h = refl
refused_target (denotes.Several s) is_alone h = absurd cc
refused_target denotes.Nothing is_alone h = absurd cc
refused_target (denotes.«Value» o) is_alone h = absurd cc
refused_target (denotes.«Package» d) is_alone h = absurd cc
refused_target (denotes.«Type» d t) is_alone h = absurd cc
refused_target (denotes.Func d s) is_alone h = absurd cc
refused_target (denotes.Builtin d b) is_alone h = absurd cc

pub addressable_targets : {T S D : Type 0} → TargetsAreAddressable T S D
addressable_targets = record {
  variable = λ o t is_alone. (value_variable o.addressable o.value_type t, variable_value o.addressable o.value_type t);
  fixed = λ o is_alone h. fixed_value o.addressable o.value_type h;
  alone = λ denoted h. (no_single denoted h).0;
  among = λ denoted h. (no_single denoted h).1;
  refused = refused_target;
}
