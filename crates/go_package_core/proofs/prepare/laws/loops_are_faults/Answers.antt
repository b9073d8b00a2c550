use Rattle.go_package_core.proofs.PrepareFaulty.{loops_are_faults as lemma}
use Rattle.go_package_core.proofs.prepare.laws.loops_are_faults.Goals as goal

pub returns : goal.returns
returns c = lemma
