-- `x op= y`, `x++` and `x--`, of what their expressions give.
--
-- docs/RULES.md, "Assignments, declarations, returns, statements". The Go specification, "Assignment statements", "IncDec statements".
use Rattle.std.specs.Prelude.{Option, Some, None}
use Rattle.go_constant_core.specs.text_core.declared.rule.Rule.{Rule}
use Rattle.go_constant_core.specs.text_core.declared.rule.Rule.TheVariants.{X1}
use Rattle.go_tree_nodes.specs.token_core.declared.kind.Operator.{Operator}
use Rattle.go_tree_nodes.specs.token_core.declared.kind.Operator.TheVariants as operators
use Rattle.go_expr_core.specs.operand_core.declared.types.Operand.{Operand}
use Rattle.go_expr_core.specs.operand_core.TypeRules.{TypeRules}
use Rattle.go_expr_core.specs.operand_core.Updates.{update, increment}
use Rattle.go_expr_core.specs.denote_core.declared.things.Argument.{Argument}
use Rattle.go_expr_core.specs.denote_core.declared.things.Argument.TheVariants as arguments

-- bit operators and shifts are outside whatever they stand between
abbrev pub bits_rule : Operator → Option Rule
bits_rule operators.AndAssign = Some X1
bits_rule operators.OrAssign = Some X1
bits_rule operators.CaretAssign = Some X1
bits_rule operators.ShiftLeftAssign = Some X1
bits_rule operators.ShiftRightAssign = Some X1
bits_rule operators.AndNotAssign = Some X1
bits_rule op = None

abbrev pub update_value : {T : Type 0} → TypeRules T → Operator → Operand T → Argument T → Option Rule
update_value rules op target (arguments.«Value» operand) = update rules op target operand
update_value rules op target arguments.Refused = bits_rule op
update_value rules op target arguments.Void = bits_rule op

abbrev pub update_rule : {T : Type 0} → TypeRules T → Operator → Argument T → Argument T → Option Rule
update_rule rules op (arguments.«Value» target) operand = update_value rules op target operand
update_rule rules op arguments.Refused operand = bits_rule op
update_rule rules op arguments.Void operand = bits_rule op

abbrev pub increment_rule : {T : Type 0} → TypeRules T → Argument T → Option Rule
increment_rule rules (arguments.«Value» target) = increment rules target
increment_rule rules arguments.Refused = None
increment_rule rules arguments.Void = None
