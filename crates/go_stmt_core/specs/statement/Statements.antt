-- Which expressions may stand for statements and for conditions.
--
-- docs/RULES.md, "Assignments, declarations, returns, statements". The Go specification, "Expression statements", "If statements", "For
-- statements".
use Rattle.std.specs.Prelude.{Bool, true, false, Option, Some, None, if◌then◌else◌}
use Rattle.go_constant_core.specs.text_core.declared.rule.Rule.{Rule}
use Rattle.go_constant_core.specs.text_core.declared.rule.Rule.TheVariants.{Y3, Y8}
use Rattle.go_expr_core.specs.operand_core.declared.types.Operand.{Operand}
use Rattle.go_expr_core.specs.operand_core.TypeRules.{TypeRules}
use Rattle.go_expr_core.specs.operand_core.Conversions.{is_condition}
use Rattle.go_expr_core.specs.denote_core.declared.things.Builtin.TheVariants as builtins
use Rattle.go_expr_core.specs.denote_core.declared.things.Denoted.{Denoted}
use Rattle.go_expr_core.specs.denote_core.declared.things.Denoted.TheVariants as denotes
use Rattle.go_expr_core.specs.denote_core.Arguments.{is_refused}

-- what may be called for a statement: no type, and not `len`
abbrev pub is_statement : {T S D : Type 0} → Denoted T S D → Bool
is_statement (denotes.«Type» d t) = false
is_statement (denotes.Builtin d builtins.Len) = false
is_statement (denotes.Builtin d builtins.Panic) = true
is_statement (denotes.Builtin d builtins.Print) = true
is_statement denotes.Refused = true
is_statement denotes.Typeless = true
is_statement (denotes.«Package» d) = true
is_statement (denotes.«Value» operand) = true
is_statement (denotes.Several s) = true
is_statement denotes.Nothing = true
is_statement (denotes.Func d s) = true

-- what is called, if the expression is a call
abbrev pub called_rule : {T S D : Type 0} → Option (Denoted T S D) → Option Rule
called_rule None = Some Y8
called_rule (Some callee) = if is_statement callee then None else Some Y8

abbrev pub statement_rule : {T S D : Type 0} → Option (Denoted T S D) → Denoted T S D → Option Rule
statement_rule callee denoted = if is_refused denoted then None else called_rule callee

abbrev pub value_condition : {T : Type 0} → TypeRules T → Operand T → Option Rule
value_condition rules operand = if is_condition rules operand then None else Some Y3

abbrev pub condition_rule : {T S D : Type 0} → TypeRules T → Denoted T S D → Option Rule
condition_rule rules (denotes.«Value» operand) = value_condition rules operand
condition_rule rules (denotes.Several s) = Some Y3
condition_rule rules denotes.Nothing = Some Y3
condition_rule rules denotes.Refused = None
condition_rule rules denotes.Typeless = None
condition_rule rules (denotes.«Package» d) = None
condition_rule rules (denotes.«Type» d t) = None
condition_rule rules (denotes.Func d s) = None
condition_rule rules (denotes.Builtin d b) = None
