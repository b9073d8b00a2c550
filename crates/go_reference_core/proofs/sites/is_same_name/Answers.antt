use Rattle.std.proofs.Common.{sym, ◌∙◌}
use denote.Enum.Bare.{same_true, true_same}
use Rattle.go_universe_core.specs.contracts.Predeclared as predeclared
use Rattle.go_reference_core.proofs.sites.is_same_name.Goals as goal

pub returns : goal.returns
returns c = (
  (λ h. same_true predeclared.the_type tt c.args.one c.args.other (sym c.eq.ensures ∙ h)),
  (λ e. c.eq.ensures ∙ true_same predeclared.the_type c.args.one c.args.other e),
)
