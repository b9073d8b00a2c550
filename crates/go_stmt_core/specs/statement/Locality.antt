-- What is answered rests on what is asked of the types that stand there, and on nothing else.
use Rattle.std.specs.Prelude.{◌≡◌, ⊤, ℕ, Bool, List, [], ◌∷◌, Option, Some, None, MatchOption}
use Rattle.go_expr_core.specs.operand_core.declared.types.ValueType.{ValueType}
use Rattle.go_expr_core.specs.operand_core.TypeRules.{TypeRules}
use Rattle.go_expr_core.specs.operand_core.Values.{default_type}
use Rattle.go_expr_core.specs.denote_core.declared.things.Argument.{Argument}
use Rattle.go_expr_core.specs.denote_core.declared.things.Argument.TheVariants as arguments
use Rattle.go_expr_core.specs.denote_core.declared.things.Denoted.{Denoted}
use Rattle.go_expr_core.specs.denote_core.declared.things.Denoted.TheVariants as denotes
use Rattle.go_expr_core.specs.denote_core.Laws.{ValueAlike}
use Rattle.go_stmt_core.specs.declared.statement.targets.Target.{Target}
use Rattle.go_stmt_core.specs.declared.statement.targets.Target.TheVariants as targets
use Rattle.go_stmt_core.specs.statement.Assignments.{assignment_rule}
use Rattle.go_stmt_core.specs.statement.Declarations.{declared_types, variables_rule, short_types}
use Rattle.go_stmt_core.specs.statement.Constants.{constant_answer}
use Rattle.go_stmt_core.specs.statement.Returns.{return_rule}
use Rattle.go_stmt_core.specs.statement.Statements.{condition_rule}

-- two look-ups on types agree on whether a value is assignable to a type: on the form of this type, on the value's own or default type, and on
-- whether that is assignable
abbrev pub FitsAlike : {T : Type 0} → TypeRules T → TypeRules T → ValueType T → T → Type 0
FitsAlike rules others v t =
    (default_type rules v ≡ default_type others v)
    × (rules.form t ≡ others.form t)
    × MatchOption (default_type others v) ⊤ (λ s. rules.assignable s t ≡ others.assignable s t)

-- of what is given where a type is wanted, if one is
abbrev pub ArgumentGivenAlike : {T : Type 0} → TypeRules T → TypeRules T → Option T → Argument T → Type 0
ArgumentGivenAlike rules others None argument = ⊤
ArgumentGivenAlike rules others (Some t) arguments.Refused = ⊤
ArgumentGivenAlike rules others (Some t) arguments.Void = ⊤
ArgumentGivenAlike rules others (Some t) (arguments.«Value» o) = FitsAlike rules others o.value_type t

-- the type that a target wants; `_` and a new variable take any
abbrev pub target_wanted : {T : Type 0} → Target T → Option T
target_wanted (targets.Variable t) = Some t
target_wanted targets.Blank = None
target_wanted targets.New = None
target_wanted targets.Typeless = None
target_wanted targets.Fixed = None

-- each of the first list with its own of the second
abbrev pub EachPair : {X Y : Type 0} → (X → Y → Type 0) → List X → List Y → Type 0
EachPair R [] ys = ⊤
EachPair R (x ∷ xs) [] = ⊤
EachPair R (x ∷ xs) (y ∷ ys) = R x y × EachPair R xs ys

abbrev pub Each : {X : Type 0} → (X → Type 0) → List X → Type 0
Each P [] = ⊤
Each P (x ∷ xs) = P x × Each P xs

-- they agree on the type that a value gives
abbrev pub TypeAlike : {T : Type 0} → TypeRules T → TypeRules T → Argument T → Type 0
TypeAlike rules others arguments.Refused = ⊤
TypeAlike rules others arguments.Void = ⊤
TypeAlike rules others (arguments.«Value» o) = default_type rules o.value_type ≡ default_type others o.value_type

-- and on what is under it
abbrev pub UnderAlike : {T : Type 0} → TypeRules T → TypeRules T → Argument T → Type 0
UnderAlike rules others arguments.Refused = ⊤
UnderAlike rules others arguments.Void = ⊤
UnderAlike rules others (arguments.«Value» o) = ValueAlike rules others o.value_type

abbrev pub type_if_written : {T : Type 0} → Option (Option T) → Option T
type_if_written None = None
type_if_written (Some t) = t

abbrev pub FormAlike : {T : Type 0} → TypeRules T → TypeRules T → Option T → Type 0
FormAlike rules others None = ⊤
FormAlike rules others (Some t) = rules.form t ≡ others.form t

abbrev pub ConditionAlike : {T S D : Type 0} → TypeRules T → TypeRules T → Denoted T S D → Type 0
ConditionAlike rules others (denotes.«Value» o) = ValueAlike rules others o.value_type
ConditionAlike rules others denoted = ⊤

pub record StatementsAreLocal (T S D : Type 0) : Type 0 where
  pub assignments : (rules others : TypeRules T) (ts : List (Target T)) (is_free : Bool) (given : List (Argument T))
      → EachPair (λ target argument. ArgumentGivenAlike rules others (target_wanted target) argument) ts given → assignment_rule rules ts is_free given ≡ assignment_rule others ts is_free given
  pub variables : (rules others : TypeRules T) (written : Option (Option T)) (count : ℕ) (is_free : Bool) (given : List (Argument T))
      → Each (ArgumentGivenAlike rules others (type_if_written written)) given → variables_rule rules written count is_free given ≡ variables_rule others written count is_free given
  pub types : (rules others : TypeRules T) (written : Option (Option T)) (count : ℕ) (given : List (Argument T))
      → Each (TypeAlike rules others) given → declared_types rules written count given ≡ declared_types others written count given
  pub short : (rules others : TypeRules T) (ts : List (Target T)) (given : List (Argument T))
      → Each (TypeAlike rules others) given → short_types rules ts given ≡ short_types others ts given
  pub constants : (rules others : TypeRules T) (written : Option (Option T)) (given : Argument T)
      → FormAlike rules others (type_if_written written) → UnderAlike rules others given → ArgumentGivenAlike rules others (type_if_written written) given
      → constant_answer rules written given ≡ constant_answer others written given
  pub returns : (rules others : TypeRules T) (results : List (Option T)) (has_names is_free : Bool) (given : List (Argument T))
      → EachPair (ArgumentGivenAlike rules others) results given → return_rule rules results has_names is_free given ≡ return_rule others results has_names is_free given
  pub conditions : (rules others : TypeRules T) (denoted : Denoted T S D) → ConditionAlike rules others denoted → condition_rule rules denoted ≡ condition_rule others denoted
