use Rattle.go_graph_core.proofs.AssemblyLaws.{has_assembly, has_no_other_assembly}
use Rattle.go_graph_core.proofs.laws.one_assembly.Goals as goal

pub returns-clause-some : goal.returns-clause-some
returns-clause-some c = has_assembly

pub returns-clause-only : goal.returns-clause-only
returns-clause-only c = has_no_other_assembly
