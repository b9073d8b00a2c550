use Rattle.go_universe_core.proofs.Spellings.{each_is_found}
use Rattle.go_universe_core.proofs.laws.each_is_found.Goals as goal

pub returns : goal.returns
returns c = each_is_found
