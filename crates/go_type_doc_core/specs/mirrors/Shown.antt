-- What a text has behind the name of the package of a part.
use Rattle.std.specs.Prelude.{ℕ, List, Option, if◌then◌else◌}
use Rattle.go_path_core.specs.text_core.Text.{is_blank}
use Rattle.go_path_core.specs.text_core.declared.rule.Rule.{Rule}
use Rattle.go_path_core.specs.text_core.declared.rule.Rule.TheVariants.{S8}
use Rattle.go_tree_nodes.specs.declared.usage.Usage.TheVariants as usages
use Rattle.go_term_core.specs.Terms.{Term}
use Rattle.go_expr_core.specs.denote_core.Answers.{refused}
use Rattle.go_expr_core.specs.denote_core.Selectors.{exported_answer}
use Rattle.go_summary_core.specs.declared_core.Packages.{shown_by}
use Rattle.go_package_core.specs.env_core.Found.{exported_shown}
use Rattle.go_package_core.specs.package_part.Inputs.{path_in}
use Rattle.go_package_core.specs.package_part.Parts.{PartModel}
use Rattle.go_type_doc_core.specs.Names.{BreaksRule, NamesType, TheAnswer}

-- what a text has behind the name of the package of a part and a dot
abbrev pub shown_answer : PartModel → List ℕ → TheAnswer
shown_answer p name = if is_blank name then refused S8 else exported_answer usages.«Type» (exported_shown (path_in p.input) (shown_by p.content.summary.faces name))

abbrev pub IsShownType : PartModel → List ℕ → Option Term → Type 0
IsShownType p name t = NamesType (shown_answer p name) t

abbrev pub IsShownRefusal : PartModel → List ℕ → Rule → Type 0
IsShownRefusal p name rule = BreaksRule (shown_answer p name) rule
