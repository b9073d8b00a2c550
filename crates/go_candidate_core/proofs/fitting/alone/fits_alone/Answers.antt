use Rattle.std.proofs.Common.{sym, ap, ◌∙◌}
use Rattle.go_summary_core.specs.Views.{faces_told}
use Rattle.go_candidate_core.proofs.FittingFits.{blank_alone, by_key, without_key}
use Rattle.go_candidate_core.proofs.fitting.alone.fits_alone.Goals as goal

pub returns-then-is_blank : goal.returns-then-is_blank
returns-then-is_blank c = blank_alone c.args.scopes.now (faces_told c.args.reached.now) c.args.stand c.args.name.now (sym c.is_blank.ensures ∙ c.if-is_blank.true)

pub returns-in-None : goal.returns-in-None
returns-in-None c = c.stands_alone.ensures ∙ without_key c.args.scopes.now (faces_told c.args.reached.now) c.args.stand c.args.name.now (sym c.is_blank.ensures ∙ c.if-is_blank.false) (sym c.in-None.ensures)
