-- Answers are the same under look-ups on types that agree on what is asked.
use Rattle.std.proofs.Common.{◌≡◌, ℕ, Bool, ◌&&◌, ◌==◌, List, [], ◌∷◌, length, map, replicate, refl, ap, ◌∙◌}
use Rattle.std.specs.Prelude.{Option, Some, None, is_some, if◌then◌else◌}
use Rattle.std.specs.List.{list_all}
use Rattle.go_constant_core.specs.text_core.declared.rule.Rule.TheVariants.{Y3, Y4, Y7}
use Rattle.go_term_core.specs.declared.term.Basic.{Basic}
use Rattle.go_term_core.specs.declared.term.Basic.TheVariants as basics
use Rattle.go_expr_core.specs.operand_core.declared.types.ValueType.{ValueType}
use Rattle.go_expr_core.specs.operand_core.declared.types.ValueType.TheVariants as value_types
use Rattle.go_expr_core.specs.operand_core.declared.types.Operand.{Operand}
use Rattle.go_expr_core.specs.operand_core.TypeRules.{TypeRules}
use Rattle.go_expr_core.specs.operand_core.Values.{is_over, form_basic}
use Rattle.go_expr_core.specs.operand_core.Assign.{takes_nil, assignable, assignable_to}
use Rattle.go_expr_core.specs.operand_core.Conversions.{kept}
use Rattle.go_expr_core.specs.denote_core.declared.things.Argument.{Argument}
use Rattle.go_expr_core.specs.denote_core.declared.things.Argument.TheVariants as arguments
use Rattle.go_expr_core.specs.denote_core.declared.things.Denoted.{Denoted}
use Rattle.go_expr_core.specs.denote_core.declared.things.Denoted.TheVariants as denotes
use Rattle.go_expr_core.specs.denote_core.Laws.{ValueAlike}
use Rattle.go_expr_core.specs.denote_core.Locality.{untyped_alike, basic_alike}
use Rattle.go_stmt_core.specs.declared.statement.targets.Target.{Target}
use Rattle.go_stmt_core.specs.declared.statement.targets.Target.TheVariants as targets
use Rattle.go_expr_core.specs.denote_core.Arguments.{fits_type}
use Rattle.go_stmt_core.specs.statement.Assignments.{takes_argument, is_left_side, all_pairs, assignment_rule}
use Rattle.go_stmt_core.specs.statement.Declarations.{given_type, declared_types, declared_target, variables_rule, type_after, paired_types, short_types}
use Rattle.go_stmt_core.specs.statement.Constants.{answer, operand_constant, own_value, answer_of_value, of_type, constant_answer}
use Rattle.go_stmt_core.specs.statement.Returns.{returned, return_rule}
use Rattle.go_stmt_core.specs.statement.Statements.{condition_rule}
use Rattle.go_stmt_core.specs.statement.Locality.{FitsAlike, ArgumentGivenAlike, target_wanted, EachPair, Each, TypeAlike, UnderAlike, type_if_written, FormAlike, ConditionAlike, StatementsAreLocal}
use Rattle.go_stmt_core.proofs.StatementPairing.{counted}

assignable_alike : {T : Type 0} (rules others : TypeRules T) (v : ValueType T) (t : T) → FitsAlike rules others v t → assignable rules v t ≡ assignable others v t
assignable_alike rules others (value_types.Typed s) t h = h.2
assignable_alike rules others value_types.UntypedInt t h = untyped_alike rules others basics.Int t h.0 h.1 h.2
assignable_alike rules others value_types.UntypedText t h = untyped_alike rules others basics.Text t h.0 h.1 h.2
assignable_alike rules others value_types.UntypedBool t h = untyped_alike rules others basics.Bool t h.0 h.1 h.2
assignable_alike rules others value_types.Nil t h = ap takes_nil h.1

-- lists in step

pairs_alike : {X Y : Type 0} (p q : X → Y → Bool) (R : X → Y → Type 0) → ((x : X) (y : Y) → R x y → p x y ≡ q x y) → (xs : List X) (ys : List Y) → EachPair R xs ys → all_pairs p xs ys ≡ all_pairs q xs ys
pairs_alike p q R f [] ys h = refl
pairs_alike p q R f (x ∷ xs) [] h = refl
pairs_alike p q R f (x ∷ xs) (y ∷ ys) h = ap (λ b. b && all_pairs p xs ys) (f x y h.0) ∙ ap (λ b. q x y && b) (pairs_alike p q R f xs ys h.1)

all_alike : {X : Type 0} (p q : X → Bool) (R : X → Type 0) → ((x : X) → R x → p x ≡ q x) → (xs : List X) → Each R xs → list_all p xs ≡ list_all q xs
all_alike p q R f [] h = refl
all_alike p q R f (x ∷ xs) h = ap (λ b. b && list_all p xs) (f x h.0) ∙ ap (λ b. q x && b) (all_alike p q R f xs h.1)

map_alike : {X Y : Type 0} (f g : X → Y) (R : X → Type 0) → ((x : X) → R x → f x ≡ g x) → (xs : List X) → Each R xs → map f xs ≡ map g xs
map_alike f g R k [] h = refl
map_alike f g R k (x ∷ xs) h = ap (λ y. y ∷ map f xs) (k x h.0) ∙ ap (λ l. g x ∷ l) (map_alike f g R k xs h.1)

-- targets and results

fits_alike : {T : Type 0} (rules others : TypeRules T) (t : T) (argument : Argument T) → ArgumentGivenAlike rules others (Some t) argument → fits_type rules t argument ≡ fits_type others t argument
fits_alike rules others t arguments.Refused h = refl
fits_alike rules others t arguments.Void h = refl
fits_alike rules others t (arguments.«Value» o) h = assignable_alike rules others o.value_type t h

takes_alike : {T : Type 0} (rules others : TypeRules T) (target : Target T) (argument : Argument T) → ArgumentGivenAlike rules others (target_wanted target) argument → takes_argument rules target argument ≡ takes_argument others target argument
takes_alike rules others targets.Blank argument h = refl
takes_alike rules others targets.New argument h = refl
takes_alike rules others (targets.Variable t) argument h = fits_alike rules others t argument h
takes_alike rules others targets.Typeless argument h = refl
takes_alike rules others targets.Fixed argument h = refl

returned_alike : {T : Type 0} (rules others : TypeRules T) (result : Option T) (argument : Argument T) → ArgumentGivenAlike rules others result argument → returned rules result argument ≡ returned others result argument
returned_alike rules others None argument h = refl
returned_alike rules others (Some t) argument h = fits_alike rules others t argument h

assignments_alike : {T : Type 0} (rules others : TypeRules T) (ts : List (Target T)) (is_free : Bool) (given : List (Argument T))
    → EachPair (λ target argument. ArgumentGivenAlike rules others (target_wanted target) argument) ts given → assignment_rule rules ts is_free given ≡ assignment_rule others ts is_free given
assignments_alike rules others ts is_free given h =
    ap (λ b. if list_all is_left_side ts then (if is_free then None else counted (length ts == length given) b) else Some Y4)
    (pairs_alike (takes_argument rules) (takes_argument others) (λ target argument. ArgumentGivenAlike rules others (target_wanted target) argument) (takes_alike rules others) ts given h)

returns_alike : {T : Type 0} (rules others : TypeRules T) (results : List (Option T)) (has_names is_free : Bool) (given : List (Argument T))
    → EachPair (ArgumentGivenAlike rules others) results given → return_rule rules results has_names is_free given ≡ return_rule others results has_names is_free given
returns_alike rules others results has_names is_free given h =
    ap (λ b. if is_free then None else (if has_names && (length given == 0) then None else counted (length results == length given) b))
    (pairs_alike (returned rules) (returned others) (ArgumentGivenAlike rules others) (returned_alike rules others) results given h)

-- variables

declared_alike : {T : Type 0} (rules others : TypeRules T) (written : Option (Option T)) (argument : Argument T) → ArgumentGivenAlike rules others (type_if_written written) argument
    → takes_argument rules (declared_target written) argument ≡ takes_argument others (declared_target written) argument
declared_alike rules others None argument h = refl
declared_alike rules others (Some None) argument h = refl
declared_alike rules others (Some (Some t)) argument h = fits_alike rules others t argument h

variables_alike : {T : Type 0} (rules others : TypeRules T) (written : Option (Option T)) (count : ℕ) (is_free : Bool) (given : List (Argument T))
    → Each (ArgumentGivenAlike rules others (type_if_written written)) given → variables_rule rules written count is_free given ≡ variables_rule others written count is_free given
variables_alike rules others written count is_free given h =
    ap (λ b. if is_free then None else counted (count == length given) b)
    (all_alike (takes_argument rules (declared_target written)) (takes_argument others (declared_target written)) (ArgumentGivenAlike rules others (type_if_written written)) (declared_alike rules others written) given h)

type_alike : {T : Type 0} (rules others : TypeRules T) (argument : Argument T) → TypeAlike rules others argument → given_type rules argument ≡ given_type others argument
type_alike rules others arguments.Refused h = refl
type_alike rules others arguments.Void h = refl
type_alike rules others (arguments.«Value» o) h = h

types_alike : {T : Type 0} (rules others : TypeRules T) (written : Option (Option T)) (count : ℕ) (given : List (Argument T))
    → Each (TypeAlike rules others) given → declared_types rules written count given ≡ declared_types others written count given
types_alike rules others (Some t) count given h = refl
types_alike rules others None count given h =
    ap (λ l. if count == length given then l else replicate count None) (map_alike (given_type rules) (given_type others) (TypeAlike rules others) (type_alike rules others) given h)

after_alike : {T : Type 0} (rules others : TypeRules T) (target : Target T) (argument : Argument T) → TypeAlike rules others argument → type_after rules target argument ≡ type_after others target argument
after_alike rules others targets.New argument h = type_alike rules others argument h
after_alike rules others targets.Blank argument h = refl
after_alike rules others (targets.Variable t) argument h = refl
after_alike rules others targets.Typeless argument h = refl
after_alike rules others targets.Fixed argument h = refl

paired_alike : {T : Type 0} (rules others : TypeRules T) (ts : List (Target T)) (given : List (Argument T)) → Each (TypeAlike rules others) given → paired_types rules ts given ≡ paired_types others ts given
paired_alike rules others [] given h = refl
paired_alike rules others (t ∷ ts) [] h = refl
paired_alike rules others (t ∷ ts) (a ∷ given) h =
    ap (λ x. x ∷ paired_types rules ts given) (after_alike rules others t a h.0) ∙ ap (λ l. type_after others t a ∷ l) (paired_alike rules others ts given h.1)

kept_alike : {T : Type 0} (rules others : TypeRules T) (ts : List (Target T)) → map (λ target. type_after rules target arguments.Refused) ts ≡ map (λ target. type_after others target arguments.Refused) ts
kept_alike rules others [] = refl
kept_alike rules others (t ∷ ts) =
    ap (λ x. x ∷ map (λ target. type_after rules target arguments.Refused) ts) (after_alike rules others t arguments.Refused tt)
    ∙ ap (λ l. type_after others t arguments.Refused ∷ l) (kept_alike rules others ts)

short_alike : {T : Type 0} (rules others : TypeRules T) (ts : List (Target T)) (given : List (Argument T)) → Each (TypeAlike rules others) given → short_types rules ts given ≡ short_types others ts given
short_alike rules others ts given h =
    ap (λ l. if length ts == length given then l else map (λ target. type_after rules target arguments.Refused) ts) (paired_alike rules others ts given h)
    ∙ ap (λ l. if length ts == length given then paired_types others ts given else l) (kept_alike rules others ts)

-- constants

constant_alike : {T : Type 0} (rules others : TypeRules T) (o : Operand T) → ValueAlike rules others o.value_type → operand_constant rules o ≡ operand_constant others o
constant_alike rules others o h = ap (λ b. kept b o.constant) (basic_alike rules others o.value_type h)

basic_answer : {T : Type 0} (rules others : TypeRules T) (t : T) (b : Option Basic) (given : Argument T) → UnderAlike rules others given → ArgumentGivenAlike rules others (Some t) given
    → of_type rules t b given ≡ of_type others t b given
basic_answer rules others t None given u h = refl
basic_answer rules others t (Some b) arguments.Refused u h = refl
basic_answer rules others t (Some b) arguments.Void u h = refl
basic_answer rules others t (Some b) (arguments.«Value» o) u h =
    ap (λ fits. answer_of_value t fits (operand_constant rules o)) (assignable_alike rules others o.value_type t h) ∙ ap (answer_of_value t (assignable_to others o t)) (constant_alike rules others o u)

constants_alike : {T : Type 0} (rules others : TypeRules T) (written : Option (Option T)) (given : Argument T)
    → FormAlike rules others (type_if_written written) → UnderAlike rules others given → ArgumentGivenAlike rules others (type_if_written written) given
    → constant_answer rules written given ≡ constant_answer others written given
constants_alike rules others None arguments.Refused f u h = refl
constants_alike rules others None arguments.Void f u h = refl
constants_alike rules others None (arguments.«Value» o) f u h = ap (own_value o.value_type) (constant_alike rules others o u)
constants_alike rules others (Some None) arguments.Refused f u h = refl
constants_alike rules others (Some None) arguments.Void f u h = refl
constants_alike rules others (Some None) (arguments.«Value» o) f u h =
    ap (λ b. answer None (if is_some o.constant && is_some b then None else Some Y7)) (basic_alike rules others o.value_type u)
constants_alike rules others (Some (Some t)) given f u h =
    ap (λ x. of_type rules t (form_basic x) given) f ∙ basic_answer rules others t (form_basic (others.form t)) given u h

-- conditions

condition_alike : {T S D : Type 0} (rules others : TypeRules T) (denoted : Denoted T S D) → ConditionAlike rules others denoted → condition_rule rules denoted ≡ condition_rule others denoted
condition_alike rules others (denotes.«Value» o) h = ap (λ b. if is_over basics.Bool b then None else Some Y3) (basic_alike rules others o.value_type h)
condition_alike rules others (denotes.Several s) h = refl
condition_alike rules others denotes.Nothing h = refl
condition_alike rules others denotes.Refused h = refl
condition_alike rules others denotes.Typeless h = refl
condition_alike rules others (denotes.«Package» d) h = refl
condition_alike rules others (denotes.«Type» d t) h = refl
condition_alike rules others (denotes.Func d s) h = refl
condition_alike rules others (denotes.Builtin d b) h = refl

pub local : {T S D : Type 0} → StatementsAreLocal T S D
local = record {
  assignments = assignments_alike;
  variables = variables_alike;
  types = types_alike;
  short = short_alike;
  constants = constants_alike;
  returns = returns_alike;
  conditions = condition_alike;
}
