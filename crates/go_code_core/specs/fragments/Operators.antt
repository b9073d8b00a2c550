-- The instructions of operators on words.
use Rattle.std.specs.Prelude.{List, [], ◌∷◌, Option, Some, None}
use Rattle.go_tree_nodes.specs.token_core.declared.kind.Operator.{Operator}
use Rattle.go_tree_nodes.specs.token_core.declared.kind.Operator.TheVariants as operators
use Rattle.go_object_core.specs.declared.instructions.instruction.Instruction.{Instruction}
use Rattle.go_object_core.specs.declared.instructions.instruction.Instruction.TheVariants as instructions

-- `+` leaves its operand as it is
abbrev pub unary_instruction : Operator → Option Instruction
unary_instruction operators.Minus = Some instructions.Neg
unary_instruction operators.Not = Some instructions.Not
unary_instruction _ = None

-- those that take both operands
abbrev pub binary_instruction : Operator → Option Instruction
binary_instruction operators.Plus = Some instructions.Add
binary_instruction operators.Minus = Some instructions.Sub
binary_instruction operators.Star = Some instructions.Mul
binary_instruction operators.Slash = Some instructions.Div
binary_instruction operators.Percent = Some instructions.Rem
binary_instruction operators.Equal = Some instructions.Eq
binary_instruction operators.NotEqual = Some instructions.Ne
binary_instruction operators.Less = Some instructions.Lt
binary_instruction operators.LessEqual = Some instructions.Le
binary_instruction operators.Greater = Some instructions.Gt
binary_instruction operators.GreaterEqual = Some instructions.Ge
binary_instruction _ = None

-- the operator of `++` or `--`
abbrev pub step_operator : Operator → Option Instruction
step_operator operators.Increment = Some instructions.Add
step_operator operators.Decrement = Some instructions.Sub
step_operator _ = None

-- the operator before `=`
abbrev pub update_operator : Operator → Option Instruction
update_operator operators.PlusAssign = Some instructions.Add
update_operator operators.MinusAssign = Some instructions.Sub
update_operator operators.StarAssign = Some instructions.Mul
update_operator operators.SlashAssign = Some instructions.Div
update_operator operators.PercentAssign = Some instructions.Rem
update_operator _ = None

-- an instruction, if there is one
abbrev pub some_instruction : Option Instruction → List Instruction
some_instruction None = []
some_instruction (Some i) = i ∷ []
