use Rattle.go_inline_core.proofs.ListLemmas.{adds_same}
use Rattle.go_inline_core.proofs.WalkLemmas.{listed_has}
use Rattle.go_inline_core.proofs.listing.list_results.Goals as goal

pub returns-in-Listed : goal.returns-in-Listed
returns-in-Listed c = adds_same _ _ _ _ (listed_has c.args.results.now c.in-Listed.params c.in-Listed.is) c.list_params.ensures
