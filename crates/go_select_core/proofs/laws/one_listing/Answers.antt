use Rattle.go_select_core.proofs.OnlyListing.{one_list}
use Rattle.go_select_core.proofs.laws.one_listing.Goals as goal

pub returns : goal.returns
returns c = one_list
