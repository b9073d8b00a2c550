use Rattle.go_typexpr_core.proofs.EntryShown.{keeps_others, shows_its_block}
use Rattle.go_typexpr_core.proofs.entry.laws.packages_show_their_blocks.Goals as goal

pub returns : goal.returns
returns c = record { own = shows_its_block; others = keeps_others }
