use Rattle.go_typexpr_core.proofs.EntryAlike.{entries_are_local}
use Rattle.go_typexpr_core.proofs.entry.laws.entries_are_local.Goals as goal

pub returns : goal.returns
returns c = entries_are_local
