-- What a text has where a type is written: it names a type, or breaks a rule.
--
-- docs/RULES.md, "Names, selectors and calls in expressions".
use Rattle.std.specs.Prelude.{◌≡◌, ℕ, List, Option}
use Rattle.go_path_core.specs.text_core.declared.rule.Rule.{Rule}
use Rattle.go_term_core.specs.Terms.{Term, Sign}
use Rattle.go_expr_core.specs.denote_core.declared.things.Answer.{Answer}
use Rattle.go_expr_core.specs.denote_core.declared.things.Denoted.TheVariants as denotes
use Rattle.go_expr_core.specs.denote_core.declared.things.Outcome.TheVariants as outcomes
use Rattle.go_summary_core.specs.handle_core.Declarations.{Declaration}

abbrev pub TheAnswer : Type 0
TheAnswer = Answer Term Sign Declaration (List ℕ)

-- it names a type, which may be none where its declaration breaks a rule
abbrev pub NamesType : TheAnswer → Option Term → Type 0
NamesType answer t = (d : Declaration) × (answer.denoted ≡ denotes.«Type» d t)

-- it breaks a rule
abbrev pub BreaksRule : TheAnswer → Rule → Type 0
BreaksRule answer rule = answer.outcome ≡ outcomes.Refused rule
