use Rattle.std.proofs.Common.{sym, ◌∙◌}
use denote.Enum.Bare.{same_true, true_same}
use Rattle.go_path_core.specs.text_core.contracts.rule.Rule as rule
use Rattle.go_import_core.proofs.head.rows.is_same_rule.Goals as goal

pub returns : goal.returns
returns c = (
  (λ h. same_true rule.the_type tt c.args.one c.args.other (sym c.eq.ensures ∙ h)),
  (λ e. c.eq.ensures ∙ true_same rule.the_type c.args.one c.args.other e),
)
