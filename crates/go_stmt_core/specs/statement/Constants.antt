-- What constants are declared as.
--
-- docs/RULES.md, "Assignments, declarations, returns, statements". The Go specification, "Constant declarations", "Constants".
use Rattle.std.specs.Prelude.{ℕ, Bool, true, false, ◌&&◌, not, ◌==◌, List, length, Option, Some, None, is_some, if◌then◌else◌}
use Rattle.std.specs.List.{list_all}
use Rattle.go_constant_core.specs.text_core.declared.rule.Rule.{Rule}
use Rattle.go_constant_core.specs.text_core.declared.rule.Rule.TheVariants.{Y4, Y7}
use Rattle.go_constant_core.specs.declared.values.Constant.{Constant}
use Rattle.go_constant_core.specs.declared.values.Constant.TheVariants as constant
use Rattle.go_term_core.specs.declared.term.Basic.{Basic}
use Rattle.go_expr_core.specs.operand_core.declared.types.ValueType.{ValueType}
use Rattle.go_expr_core.specs.operand_core.declared.types.ValueType.TheVariants as value_types
use Rattle.go_expr_core.specs.operand_core.declared.types.Operand.{Operand}
use Rattle.go_expr_core.specs.operand_core.TypeRules.{TypeRules}
use Rattle.go_expr_core.specs.operand_core.Values.{form_basic, basic_under}
use Rattle.go_expr_core.specs.operand_core.Assign.{assignable_to}
use Rattle.go_expr_core.specs.operand_core.Operators.{value}
use Rattle.go_expr_core.specs.operand_core.Conversions.{kept}
use Rattle.go_expr_core.specs.denote_core.declared.things.Argument.{Argument}
use Rattle.go_expr_core.specs.denote_core.declared.things.Argument.TheVariants as arguments
use Rattle.go_stmt_core.specs.declared.statement.constants.ConstantAnswer.{ConstantAnswer}

-- a constant over bool, int or string
abbrev pub is_constant_value : {T : Type 0} → TypeRules T → Operand T → Bool
is_constant_value rules operand = is_some operand.constant && is_some (basic_under rules operand.value_type)

abbrev pub is_constant : {T : Type 0} → TypeRules T → Argument T → Bool
is_constant rules arguments.Refused = false
is_constant rules arguments.Void = false
is_constant rules (arguments.«Value» operand) = is_constant_value rules operand

-- as many expressions as constants; a call alone that is no constant is refused, and so its count is not known
abbrev pub constants_rule : {T : Type 0} → TypeRules T → Bool → ℕ → List (Argument T) → Option Rule
constants_rule rules is_lone_call count given =
    if is_lone_call && not (list_all (is_constant rules) given) then None else (if count == length given then None else Some Y4)

abbrev pub answer : {T : Type 0} → Option (Operand T) → Option Rule → ConstantAnswer T
answer v r = record { value = v; rule = r }

abbrev pub constant_operand : {T : Type 0} → ValueType T → Constant → Option (Operand T)
constant_operand v k = Some (value v (Some k))

abbrev pub operand_constant : {T : Type 0} → TypeRules T → Operand T → Option Constant
operand_constant rules operand = kept (basic_under rules operand.value_type) operand.constant

-- without a written type

abbrev pub own_value : {T : Type 0} → ValueType T → Option Constant → ConstantAnswer T
own_value v None = answer None (Some Y7)
own_value v (Some k) = answer (constant_operand v k) None

abbrev pub untyped_value : {T : Type 0} → TypeRules T → Operand T → ConstantAnswer T
untyped_value rules operand = own_value operand.value_type (operand_constant rules operand)

abbrev pub of_own_type : {T : Type 0} → TypeRules T → Argument T → ConstantAnswer T
of_own_type rules arguments.Refused = answer None None
of_own_type rules arguments.Void = answer None (Some Y7)
of_own_type rules (arguments.«Value» operand) = untyped_value rules operand

-- where what is written is no type

abbrev pub of_no_type : {T : Type 0} → TypeRules T → Argument T → ConstantAnswer T
of_no_type rules arguments.Refused = answer None None
of_no_type rules arguments.Void = answer None (Some Y7)
of_no_type rules (arguments.«Value» operand) = answer None (if is_constant_value rules operand then None else Some Y7)

-- with a written type over bool, int or string

-- a constant of the type whose value is not known
abbrev pub unknown : {T : Type 0} → T → Option (Operand T)
unknown t = constant_operand (value_types.Typed t) constant.Unknown

abbrev pub assigned_value : {T : Type 0} → T → Bool → Constant → ConstantAnswer T
assigned_value t true k = answer (constant_operand (value_types.Typed t) k) None
assigned_value t false k = answer (unknown t) (Some Y4)

abbrev pub answer_of_value : {T : Type 0} → T → Bool → Option Constant → ConstantAnswer T
answer_of_value t fits None = answer (unknown t) (Some Y7)
answer_of_value t fits (Some k) = assigned_value t fits k

abbrev pub typed_value : {T : Type 0} → TypeRules T → T → Operand T → ConstantAnswer T
typed_value rules t operand = answer_of_value t (assignable_to rules operand t) (operand_constant rules operand)

abbrev pub of_basic_type : {T : Type 0} → TypeRules T → T → Argument T → ConstantAnswer T
of_basic_type rules t arguments.Refused = answer (unknown t) None
of_basic_type rules t arguments.Void = answer (unknown t) (Some Y7)
of_basic_type rules t (arguments.«Value» operand) = typed_value rules t operand

abbrev pub of_type : {T : Type 0} → TypeRules T → T → Option Basic → Argument T → ConstantAnswer T
of_type rules t None given = answer None (Some Y7)
of_type rules t (Some b) given = of_basic_type rules t given

abbrev pub constant_answer : {T : Type 0} → TypeRules T → Option (Option T) → Argument T → ConstantAnswer T
constant_answer rules None given = of_own_type rules given
constant_answer rules (Some None) given = of_no_type rules given
constant_answer rules (Some (Some t)) given = of_type rules t (form_basic (rules.form t)) given
