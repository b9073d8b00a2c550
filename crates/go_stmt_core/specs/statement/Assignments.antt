-- Which targets take which values, and the rule of an assignment.
--
-- docs/RULES.md, "Assignments, declarations, returns, statements". The Go specification, "Assignment statements".
use Rattle.std.specs.Prelude.{Bool, true, false, ◌&&◌, ◌==◌, List, [], ◌∷◌, length, Option, Some, None, if◌then◌else◌}
use Rattle.std.specs.List.{list_all}
use Rattle.go_constant_core.specs.text_core.declared.rule.Rule.{Rule}
use Rattle.go_constant_core.specs.text_core.declared.rule.Rule.TheVariants.{Y4}
use Rattle.go_expr_core.specs.operand_core.declared.types.ValueType.{ValueType}
use Rattle.go_expr_core.specs.operand_core.declared.types.ValueType.TheVariants as value_types
use Rattle.go_expr_core.specs.operand_core.TypeRules.{TypeRules}
use Rattle.go_expr_core.specs.denote_core.declared.things.Argument.{Argument}
use Rattle.go_expr_core.specs.denote_core.declared.things.Argument.TheVariants as arguments
use Rattle.go_expr_core.specs.denote_core.Arguments.{fits_type}
use Rattle.go_stmt_core.specs.declared.statement.targets.Target.{Target}
use Rattle.go_stmt_core.specs.declared.statement.targets.Target.TheVariants as targets

-- a type, or a default type
abbrev pub has_type : {T : Type 0} → ValueType T → Bool
has_type (value_types.Typed t) = true
has_type value_types.UntypedInt = true
has_type value_types.UntypedText = true
has_type value_types.UntypedBool = true
has_type value_types.Nil = false

abbrev pub gives_type : {T : Type 0} → Argument T → Bool
gives_type arguments.Refused = true
gives_type arguments.Void = false
gives_type (arguments.«Value» operand) = has_type operand.value_type

-- a target takes what it is given
abbrev pub takes_argument : {T : Type 0} → TypeRules T → Target T → Argument T → Bool
takes_argument rules targets.Blank argument = gives_type argument
takes_argument rules targets.New argument = gives_type argument
takes_argument rules (targets.Variable t) argument = fits_type rules t argument
takes_argument rules targets.Typeless argument = true
takes_argument rules targets.Fixed argument = false

abbrev pub is_left_side : {T : Type 0} → Target T → Bool
is_left_side targets.Blank = true
is_left_side targets.New = true
is_left_side (targets.Variable t) = true
is_left_side targets.Typeless = true
is_left_side targets.Fixed = false

-- each of the first list with its own of the second
abbrev pub all_pairs : {X Y : Type 0} → (X → Y → Bool) → List X → List Y → Bool
all_pairs test [] ys = true
all_pairs test (x ∷ xs) [] = true
all_pairs test (x ∷ xs) (y ∷ ys) = test x y && all_pairs test xs ys

-- the rule that is broken unless all is well
abbrev pub unless : Bool → Option Rule
unless true = None
unless false = Some Y4

-- nothing is known of the values where the only member of their list is a refused call
abbrev pub assignment_rule : {T : Type 0} → TypeRules T → List (Target T) → Bool → List (Argument T) → Option Rule
assignment_rule rules ts is_free given =
    if list_all is_left_side ts
    then (if is_free then None else (if length ts == length given then unless (all_pairs (takes_argument rules) ts given) else Some Y4))
    else Some Y4
