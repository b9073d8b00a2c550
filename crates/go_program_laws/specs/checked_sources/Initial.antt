-- Variables that are declared without a value have a type.
--
-- The Go specification, "Variable declarations".
use Rattle.std.specs.Prelude.{◌≡◌, true, None}
use Rattle.go_tree_nodes.specs.Rules.{Wf_value_spec}
use Rattle.go_tree_nodes.specs.Trees.{ValueSpecTree}
use Rattle.go_tree_nodes.specs.declared.decls.ValueKind.TheVariants as value_kinds
use Rattle.go_code_core.specs.fragments.Fragment.{some_type_inside}
use Rattle.go_code_core.specs.fragments.Names.{CodeLooks}
use Rattle.go_meaning_laws.specs.source_meaning.Meaning.{some_type_word}
use Rattle.go_meaning_laws.specs.fitting_sources.Fitting.{IsGiven}

-- in a specification of the grammar that stands in the run fragment
abbrev pub VariablesHaveTypes : Type 0
VariablesHaveTypes = (looks : CodeLooks) (v : ValueSpecTree) → Wf_value_spec value_kinds.Var v → some_type_inside looks v.type_expr ≡ true → v.values ≡ None → IsGiven (some_type_word looks v.type_expr)
