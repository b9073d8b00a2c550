use Rattle.go_typexpr_core.proofs.EntryScoping.{names_are_in_scope}
use Rattle.go_typexpr_core.proofs.entry.laws.names_are_in_scope.Goals as goal

pub returns : goal.returns
returns c = names_are_in_scope
