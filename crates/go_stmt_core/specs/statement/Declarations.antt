-- The types of variables that are declared, and the rule of their declaration.
--
-- docs/RULES.md, "Assignments, declarations, returns, statements", "Declarations outside functions". The Go specification, "Variable declarations", "Short variable
-- declarations".
use Rattle.std.specs.Prelude.{ℕ, Bool, false, ◌&&◌, not, is_some, ◌==◌, List, [], ◌∷◌, length, map, replicate, Option, Some, None, if◌then◌else◌}
use Rattle.std.specs.List.{list_all}
use Rattle.go_constant_core.specs.text_core.declared.rule.Rule.{Rule}
use Rattle.go_constant_core.specs.text_core.declared.rule.Rule.TheVariants.{Y4}
use Rattle.go_expr_core.specs.operand_core.TypeRules.{TypeRules}
use Rattle.go_expr_core.specs.operand_core.Values.{default_type}
use Rattle.go_expr_core.specs.denote_core.declared.things.Argument.{Argument}
use Rattle.go_expr_core.specs.denote_core.declared.things.Argument.TheVariants as arguments
use Rattle.go_stmt_core.specs.declared.statement.targets.Target.{Target}
use Rattle.go_stmt_core.specs.declared.statement.targets.Target.TheVariants as targets
use Rattle.go_stmt_core.specs.statement.Assignments.{takes_argument, unless}

-- the type that a value gives a variable: its own, or the default type of an untyped one
abbrev pub given_type : {T : Type 0} → TypeRules T → Argument T → Option T
given_type rules arguments.Refused = None
given_type rules arguments.Void = None
given_type rules (arguments.«Value» operand) = default_type rules operand.value_type

-- the types of so many variables, by the type that is written and by what they are given
abbrev pub declared_types : {T : Type 0} → TypeRules T → Option (Option T) → ℕ → List (Argument T) → List (Option T)
declared_types rules (Some t) count given = replicate count t
declared_types rules None count given = if count == length given then map (given_type rules) given else replicate count None

-- a variable of the written type; what is written may be no type
abbrev pub declared_target : {T : Type 0} → Option (Option T) → Target T
declared_target None = targets.New
declared_target (Some None) = targets.Typeless
declared_target (Some (Some t)) = targets.Variable t

abbrev pub variables_rule : {T : Type 0} → TypeRules T → Option (Option T) → ℕ → Bool → List (Argument T) → Option Rule
variables_rule rules written count is_free given =
    if is_free
    then None
    else (if count == length given then unless (list_all (takes_argument rules (declared_target written)) given) else Some Y4)

-- outside functions

-- a constant
abbrev pub is_initial : {T : Type 0} → Argument T → Bool
is_initial arguments.Refused = false
is_initial arguments.Void = false
is_initial (arguments.«Value» operand) = is_some operand.constant

-- what a variable is given there: a constant; what is none is refused
abbrev pub initial_argument : {T : Type 0} → Argument T → Argument T
initial_argument arguments.Refused = arguments.Refused
initial_argument arguments.Void = arguments.Refused
initial_argument (arguments.«Value» operand) = if is_some operand.constant then arguments.«Value» operand else arguments.Refused

-- the rule of variables there: nothing is known of the values where the only member of their list is a call that is no constant
abbrev pub initials_rule : {T : Type 0} → TypeRules T → Option (Option T) → ℕ → Bool → List (Argument T) → Option Rule
initials_rule rules written count is_lone_call given =
    variables_rule rules written count (is_lone_call && not (list_all is_initial given)) (map initial_argument given)

-- their types
abbrev pub initial_types : {T : Type 0} → TypeRules T → Option (Option T) → ℕ → List (Argument T) → List (Option T)
initial_types rules written count given = declared_types rules written count (map initial_argument given)

-- short declarations

-- a new variable has the type that it is given, and one that was declared before keeps its own
abbrev pub type_after : {T : Type 0} → TypeRules T → Target T → Argument T → Option T
type_after rules targets.New argument = given_type rules argument
type_after rules (targets.Variable t) argument = Some t
type_after rules targets.Blank argument = None
type_after rules targets.Typeless argument = None
type_after rules targets.Fixed argument = None

abbrev pub paired_types : {T : Type 0} → TypeRules T → List (Target T) → List (Argument T) → List (Option T)
paired_types rules [] given = []
paired_types rules (target ∷ ts) [] = []
paired_types rules (target ∷ ts) (argument ∷ given) = type_after rules target argument ∷ paired_types rules ts given

-- the types of the names left of `:=`; where there is not one value for each, no name is given one
abbrev pub short_types : {T : Type 0} → TypeRules T → List (Target T) → List (Argument T) → List (Option T)
short_types rules ts given =
    if length ts == length given then paired_types rules ts given else map (λ target. type_after rules target arguments.Refused) ts
