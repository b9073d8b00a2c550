use Rattle.std.proofs.Common.{sym, ◌∙◌}
use Rattle.go_judge_core.proofs.Rules.{rule_means}
use Rattle.go_judge_core.proofs.breaking.is_same.Goals as goal

pub returns : goal.returns
returns c = λ same. (c.if-at-offset.false, rule_means c.args.found c.args.rule (sym c.eq.ensures ∙ same))
