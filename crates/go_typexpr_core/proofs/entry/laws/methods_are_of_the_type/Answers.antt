use Rattle.go_typexpr_core.proofs.EntryBelonging.{methods_are_of_the_type}
use Rattle.go_typexpr_core.proofs.entry.laws.methods_are_of_the_type.Goals as goal

pub returns : goal.returns
returns c = methods_are_of_the_type
