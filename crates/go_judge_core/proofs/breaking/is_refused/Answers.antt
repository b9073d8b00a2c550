use Rattle.std.proofs.Common.{ap, ◌∙◌}
use Rattle.go_tree_nodes.specs.text_core.declared.rule.Rule.{Rule}
use Rattle.go_stmt_core.specs.denote_core.declared.things.Outcome.TheVariants as outcomes
use Rattle.go_judge_core.proofs.breaking.is_refused.Goals as goal

pub returns-in-Refused : goal.returns-in-Refused
returns-in-Refused g c = λ holds. ((c.is_same.ensures holds).0, c.in-Refused.is ∙ ap (λ (r : Rule). outcomes.Refused r) (c.is_same.ensures holds).1)
