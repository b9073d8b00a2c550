-- What returns give.
--
-- docs/RULES.md, "Assignments, declarations, returns, statements". The Go specification, "Return statements".
use Rattle.std.specs.Prelude.{Bool, true, ◌&&◌, ◌==◌, List, length, Option, Some, None, if◌then◌else◌}
use Rattle.go_constant_core.specs.text_core.declared.rule.Rule.{Rule}
use Rattle.go_constant_core.specs.text_core.declared.rule.Rule.TheVariants.{Y4}
use Rattle.go_expr_core.specs.operand_core.TypeRules.{TypeRules}
use Rattle.go_expr_core.specs.denote_core.declared.things.Argument.{Argument}
use Rattle.go_expr_core.specs.denote_core.Arguments.{fits_type}
use Rattle.go_stmt_core.specs.statement.Assignments.{all_pairs, unless}

-- a result without a type takes each value
abbrev pub returned : {T : Type 0} → TypeRules T → Option T → Argument T → Bool
returned rules None argument = true
returned rules (Some t) argument = fits_type rules t argument

abbrev pub return_rule : {T : Type 0} → TypeRules T → List (Option T) → Bool → Bool → List (Argument T) → Option Rule
return_rule rules results has_names is_free given =
    if is_free
    then None
    else (
    if has_names && (length given == 0)
    then None
    else (if length results == length given then unless (all_pairs (returned rules) results given) else Some Y4)
    )
