use Rattle.go_select_core.proofs.Local.{listing_there}
use Rattle.go_select_core.proofs.laws.listing_is_local.Goals as goal

pub returns : goal.returns
returns c = listing_there
