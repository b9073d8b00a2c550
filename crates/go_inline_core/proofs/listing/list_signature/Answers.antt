use Rattle.go_inline_core.proofs.ListLemmas.{adds_both}
use Rattle.go_inline_core.proofs.WalkLemmas.{signature_has}
use Rattle.go_inline_core.proofs.listing.list_signature.Goals as goal

pub returns : goal.returns
returns c = adds_both _ _ _ _ _ _ (signature_has c.args.signature.now) c.list_params.ensures c.list_results.ensures
