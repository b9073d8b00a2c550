-- What operators make of what their operands denote.
--
-- docs/RULES.md, "Operands and operators". The Go specification, "Operators", "Address operators"; "Conversions": `(*T)(x)` writes a
-- pointer type with a star.
use Rattle.std.specs.Prelude.{Bool, true, false, if◌then◌else◌, Option, Some, None, Result, Ok, Err}
use Rattle.go_denote_core.specs.text_core.declared.rule.Rule.{Rule}
use Rattle.go_tree_nodes.specs.token_core.declared.kind.Operator.{Operator}
use Rattle.go_tree_nodes.specs.token_core.declared.kind.Operator.TheVariants as operators
use Rattle.go_denote_core.specs.operand_core.declared.types.Operand.{Operand}
use Rattle.go_denote_core.specs.operand_core.TypeRules.{TypeRules}
use Rattle.go_denote_core.specs.operand_core.Operators.{binary_operand, refused_binary}
use Rattle.go_denote_core.specs.operand_core.Prefixes.{unary_operand, refused_unary}
use Rattle.go_denote_core.specs.declared.things.Denoted.{Denoted}
use Rattle.go_denote_core.specs.declared.things.Denoted.TheVariants as denotes
use Rattle.go_expr_core.specs.declared.things.Judged.{Judged}

abbrev pub of_operand : {T S D : Type 0} → Result (Operand T) Rule → Judged T S D
of_operand (Ok operand) = record { denoted = denotes.«Value» operand; fault = None }
of_operand (Err rule) = record { denoted = denotes.Refused; fault = Some rule }

-- an operand of it is refused
abbrev pub passed : {T S D : Type 0} → Option Rule → Judged T S D
passed fault = record { denoted = denotes.Refused; fault = fault }

abbrev pub pointer_type : {T : Type 0} → TypeRules T → Option T → Option T
pointer_type rules None = None
pointer_type rules (Some t) = Some (rules.pointer_to t)

abbrev pub is_star : Operator → Bool
is_star operators.Star = true
is_star _ = false

-- a star before a type is the type of pointers to it
abbrev pub unary_type : {T S D : Type 0} → TypeRules T → Operator → D → Option T → Judged T S D
unary_type rules op d t = if is_star op then record { denoted = denotes.«Type» d (pointer_type rules t); fault = None } else passed (refused_unary op)

-- a unary operator before what its operand denotes, which may be a composite literal
abbrev pub unary_of : {T S D : Type 0} → TypeRules T → Operator → Bool → Denoted T S D → Judged T S D
unary_of rules op is_literal (denotes.«Value» operand) = of_operand (unary_operand rules op is_literal operand)
unary_of rules op is_literal (denotes.«Type» d t) = unary_type rules op d t
unary_of rules op is_literal denotes.Refused = passed (refused_unary op)
unary_of rules op is_literal denotes.Typeless = passed (refused_unary op)
unary_of rules op is_literal (denotes.«Package» d) = passed (refused_unary op)
unary_of rules op is_literal (denotes.Several s) = passed (refused_unary op)
unary_of rules op is_literal denotes.Nothing = passed (refused_unary op)
unary_of rules op is_literal (denotes.Func d s) = passed (refused_unary op)
unary_of rules op is_literal (denotes.Builtin d b) = passed (refused_unary op)

abbrev pub operand_of : {T S D : Type 0} → Denoted T S D → Option (Operand T)
operand_of (denotes.«Value» operand) = Some operand
operand_of denotes.Refused = None
operand_of denotes.Typeless = None
operand_of (denotes.«Package» d) = None
operand_of (denotes.«Type» d t) = None
operand_of (denotes.Several s) = None
operand_of denotes.Nothing = None
operand_of (denotes.Func d s) = None
operand_of (denotes.Builtin d b) = None

abbrev pub binary_operands : {T S D : Type 0} → TypeRules T → Operator → Option (Operand T) → Option (Operand T) → Judged T S D
binary_operands rules op (Some a) (Some b) = of_operand (binary_operand rules op a b)
binary_operands rules op (Some a) None = passed (refused_binary op)
binary_operands rules op None b = passed (refused_binary op)

-- a binary operator between what its operands denote
abbrev pub binary_of : {T S D : Type 0} → TypeRules T → Operator → Denoted T S D → Denoted T S D → Judged T S D
binary_of rules op a b = binary_operands rules op (operand_of a) (operand_of b)
