use Rattle.std.proofs.lemmas.Result.{on_ok_weaker}
use Rattle.go_embed_core.proofs.Noting.{both_notes}
use Rattle.go_embed_core.proofs.faults.add_signature.Goals as goal

pub returns : goal.returns
returns g c = on_ok_weaker c.add_terms-2.result (both_notes _ _ _ _ _ c.in_ok-add_terms.ensures) c.add_terms-2.ensures
