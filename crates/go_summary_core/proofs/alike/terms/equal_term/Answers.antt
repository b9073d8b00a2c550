use Rattle.go_summary_core.proofs.AlikeEqual.{term_answered}
use Rattle.go_summary_core.proofs.alike.terms.equal_term.Goals as goal

pub returns : goal.returns
returns c = term_answered _ _ _ c.is_equal_term.ensures
