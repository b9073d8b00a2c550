use Rattle.go_spec_laws.proofs.EndingSamples.{ends, jumps}
use Rattle.go_spec_laws.proofs.ending.laws.worked_functions.Goals as goal

pub returns-clause-ends : goal.returns-clause-ends
returns-clause-ends c = ends

pub returns-clause-jumps : goal.returns-clause-jumps
returns-clause-jumps c = jumps
