use Rattle.go_spec_laws.proofs.FrontBranchTables as law
use Rattle.go_spec_laws.proofs.front.local_laws.worked_branches.Goals as goal

pub returns : goal.returns
returns c = law.worked_branches
