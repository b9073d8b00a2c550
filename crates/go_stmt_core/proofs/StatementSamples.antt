-- Statements, worked out.
use Rattle.std.proofs.Common.{false, [], ◌∷◌, map, refl, ap}
use Rattle.go_expr_core.specs.denote_core.Arguments.{argument_of_result}
use Rattle.go_stmt_core.specs.declared.statement.targets.Target.TheVariants as targets
use Rattle.go_stmt_core.specs.statement.Assignments.{assignment_rule}
use Rattle.go_stmt_core.specs.statement.Declarations.{short_types}
use Rattle.go_stmt_core.specs.statement.Worked.{WorkedStatements}

pub worked : {T S D P : Type 0} → WorkedStatements T S D P
worked = record {
  both_new = λ look. refl;
  one_new = λ look t. refl;
  two_results = λ look s t u h. ap (λ rs. short_types look.types (targets.New ∷ targets.New ∷ []) (map argument_of_result rs)) h;
  two_taken = λ look s t u h. ap (λ rs. assignment_rule look.types (targets.New ∷ targets.New ∷ []) false (map argument_of_result rs)) h;
  two_for_one = λ look s t u h. ap (λ rs. assignment_rule look.types (targets.New ∷ []) false (map argument_of_result rs)) h;
  one_for_two = λ look. refl;
  no_value = λ look. refl;
  call_left = λ look. refl;
  value_left = λ look. refl;
  blank_nil = λ look. refl;
  blank_one = λ look. refl;
  refused_call = λ look t u. refl;
  refused_name = λ look t u. refl;
  variable_one = λ look. refl;
  variable_nil = λ look. refl;
  variable_two = λ look. refl;
  constant_one = λ look. refl;
  constant_held = λ look. refl;
  constant_nil = λ look. refl;
  constant_refused = λ look. refl;
  constants_one = λ look. refl;
  return_named = λ look t. refl;
  return_nothing = λ look t. refl;
  return_plain = λ look. refl;
  return_one = λ look. refl;
  return_void = λ look. refl;
  call = λ d s t. refl;
  conversion = λ d t. refl;
  length = λ d t. refl;
  panics = λ d. refl;
  literal = refl;
  condition_nil = λ look. refl;
  refused_bits = λ look. refl;
}
