-- A specification of variables has a type or values.
use Rattle.std.proofs.Common.{◌≡◌, true, Option, Some, None, is_some}
use Rattle.go_constant_core.specs.text_core.declared.span.Span.{Span}
use Rattle.go_tree_nodes.specs.Rules.{HasEnough}
use Rattle.go_tree_nodes.specs.Trees.{ExprTree, Separated, TypeTree}
use Rattle.go_tree_nodes.specs.declared.decls.ValueKind.TheVariants as value_kinds
use Rattle.go_object_core.specs.declared.instructions.letters.Word.{Word}
use Rattle.go_code_core.specs.fragments.Fragment.{some_type_inside, type_word}
use Rattle.go_code_core.specs.fragments.Names.{CodeLooks}
use Rattle.go_meaning_laws.specs.source_meaning.Meaning.{some_type_word}
use Rattle.go_meaning_laws.specs.fitting_sources.Fitting.{IsGiven}
use Rattle.go_program_laws.specs.checked_sources.Initial.{VariablesHaveTypes}

is_given : (o : Option Word) → is_some o ≡ true → IsGiven o
is_given None e = absurd (cc e)
is_given (Some w) e = tt

has_type : (looks : CodeLooks) (t : Option TypeTree) (values : Option (Span × Separated ExprTree)) → HasEnough value_kinds.Var t values → some_type_inside looks t ≡ true → values ≡ None → IsGiven (some_type_word looks t)
has_type looks None None h inside none = absurd h
has_type looks None (Some v) h inside none = absurd (cc none)
has_type looks (Some t) values h inside none = is_given (type_word looks t) inside

pub variables_have_types : VariablesHaveTypes
variables_have_types looks v well inside none = has_type looks v.type_expr v.values well.0 inside none
