use Rattle.go_summary_core.proofs.AlikeEqual.{sign_answered}
use Rattle.go_summary_core.proofs.alike.terms.equal_signature.Goals as goal

pub returns : goal.returns
returns c = sign_answered _ _ _ c.is_equal_signature.ensures
