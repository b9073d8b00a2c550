use Rattle.go_typexpr_core.proofs.EntryWorked.{sample_is_right}
use Rattle.go_typexpr_core.proofs.entry.laws.worked_entries.Goals as goal

pub returns : goal.returns
returns c = sample_is_right
