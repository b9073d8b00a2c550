use Rattle.go_typexpr_core.proofs.EntryBelonging.{keys_differ}
use Rattle.go_typexpr_core.proofs.entry.laws.entry_keys_differ.Goals as goal

pub returns : goal.returns
returns c = keys_differ
