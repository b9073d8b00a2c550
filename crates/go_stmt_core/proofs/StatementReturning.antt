-- Returns stand exactly where they give each result its own value.
use Rattle.std.proofs.Common.{◌≡◌, Bool, true, false, ◌&&◌, ◌==◌, List, [], ◌∷◌, length, refl, sym, ap, ◌∙◌, arith}
use Rattle.std.proofs.lemmas.Bool.{eqb-true}
use Rattle.std.specs.Prelude.{Option, Some, None, IfSome, if◌then◌else◌}
use Rattle.go_constant_core.specs.text_core.declared.rule.Rule.{Rule}
use Rattle.go_constant_core.specs.text_core.declared.rule.Rule.TheVariants.{Y4}
use Rattle.go_expr_core.specs.operand_core.TypeRules.{TypeRules}
use Rattle.go_expr_core.specs.operand_core.Relating.{assigned, assigns}
use Rattle.go_expr_core.specs.denote_core.declared.things.Argument.{Argument}
use Rattle.go_expr_core.specs.denote_core.declared.things.Argument.TheVariants as arguments
use Rattle.go_expr_core.specs.denote_core.Arguments.{fits_type}
use Rattle.go_stmt_core.specs.statement.Assignments.{all_pairs}
use Rattle.go_stmt_core.specs.statement.Returns.{returned, return_rule}
use Rattle.go_stmt_core.specs.statement.Relations.{IsReturned, to_result, to_typeless, of_refused, Returns, not_known, empty_with_names, of_values}
use Rattle.go_stmt_core.specs.statement.Laws.{ReturnsStand}
use Rattle.go_stmt_core.proofs.StatementPairing.{counted, corresponds, corresponded}

result_is : {T : Type 0} (rules : TypeRules T) (wanted : Option T) (argument : Argument T) → returned rules wanted argument ≡ true → IsReturned rules wanted argument
result_is rules None argument h = to_typeless refl
result_is rules (Some t) arguments.Refused h = of_refused refl
result_is rules (Some t) arguments.Void h = absurd cc
result_is rules (Some t) (arguments.«Value» o) h = to_result t o refl refl (assigned rules o.value_type t h)

refused_result : {T : Type 0} (rules : TypeRules T) (wanted : Option T) → returned rules wanted arguments.Refused ≡ true
refused_result rules None = refl
refused_result rules (Some t) = refl

is_result : {T : Type 0} (rules : TypeRules T) (wanted : Option T) (argument : Argument T) → IsReturned rules wanted argument → returned rules wanted argument ≡ true
is_result rules wanted argument (to_result t o e k h) = ap (λ w. returned rules w argument) e ∙ (ap (λ a. fits_type rules t a) k ∙ assigns rules o.value_type t h)
is_result rules wanted argument (to_typeless e) = ap (λ w. returned rules w argument) e
is_result rules wanted argument (of_refused k) = ap (λ a. returned rules wanted a) k ∙ refused_result rules wanted

none_given : {X : Type 0} (given : List X) → (length given == 0) ≡ true → given ≡ []
none_given [] h = refl
none_given (x ∷ xs) h = let e : length (x ∷ xs) ≡ 0 = eqb-true (length (x ∷ xs)) 0 h in absurd (omega (arith, e))

abbrev judged : Bool → Bool → Bool → Option Rule → Option Rule
judged is_free has_names empty rule = if is_free then None else (if has_names && empty then None else rule)

judged_only : (is_free has_names empty same pairs : Bool) → IfSome (judged is_free has_names empty (counted same pairs)) (λ rule. rule ≡ Y4)
judged_only true has_names empty same pairs = tt
judged_only false true true same pairs = tt
judged_only false true false true true = tt
judged_only false true false true false = refl
judged_only false true false false pairs = refl
judged_only false false empty true true = tt
judged_only false false empty true false = refl
judged_only false false empty false pairs = refl

return_stands : {T : Type 0} (rules : TypeRules T) (results : List (Option T)) (has_names is_free empty : Bool) (given : List (Argument T)) → empty ≡ (length given == 0)
    → judged is_free has_names empty (counted (length results == length given) (all_pairs (returned rules) results given)) ≡ None → Returns rules results has_names is_free given
return_stands rules results has_names true empty given e h = not_known refl
return_stands rules results true false true given e h = empty_with_names refl (none_given given (sym e))
return_stands rules results true false false given e h = of_values (corresponds (returned rules) (IsReturned rules) (result_is rules) results given h)
return_stands rules results false false empty given e h = of_values (corresponds (returned rules) (IsReturned rules) (result_is rules) results given h)

judged_well : (is_free has_names empty : Bool) (rule : Option Rule) → rule ≡ None → judged is_free has_names empty rule ≡ None
judged_well true has_names empty rule h = refl
judged_well false true true rule h = refl
judged_well false true false rule h = h
judged_well false false empty rule h = h

judged_empty : (is_free has_names empty : Bool) (rule : Option Rule) → has_names ≡ true → empty ≡ true → judged is_free has_names empty rule ≡ None
judged_empty true has_names empty rule h k = refl
judged_empty false true true rule h k = refl
judged_empty false true false rule h k = absurd cc
judged_empty false false empty rule h k = absurd cc

stands_returned : {T : Type 0} (rules : TypeRules T) (results : List (Option T)) (has_names is_free : Bool) (given : List (Argument T)) → Returns rules results has_names is_free given → return_rule rules results has_names is_free given ≡ None
stands_returned rules results has_names is_free given (not_known h) =
    ap (λ b. judged b has_names (length given == 0) (counted (length results == length given) (all_pairs (returned rules) results given))) h
stands_returned rules results has_names is_free given (empty_with_names h k) =
    judged_empty is_free has_names (length given == 0) (counted (length results == length given) (all_pairs (returned rules) results given)) h (ap (λ xs. length xs == 0) k)
stands_returned rules results has_names is_free given (of_values h) =
    judged_well is_free has_names (length given == 0) (counted (length results == length given) (all_pairs (returned rules) results given))
    (corresponded (returned rules) (IsReturned rules) (is_result rules) results given h)

pub returns_well : {T : Type 0} → ReturnsStand T
returns_well = record {
  stands = λ rules results has_names is_free given. (return_stands rules results has_names is_free (length given == 0) given refl, stands_returned rules results has_names is_free given);
  only = λ rules results has_names is_free given. judged_only is_free has_names (length given == 0) (length results == length given) (all_pairs (returned rules) results given);
}
