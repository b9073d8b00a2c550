use Rattle.go_local_core.proofs.Short.{short_faults_are, short_walk}
use Rattle.go_local_core.proofs.laws.short_is_one_definition.Goals as goal

pub returns-clause-faults : goal.returns-clause-faults
returns-clause-faults g c = short_faults_are _

pub returns-clause-walk : goal.returns-clause-walk
returns-clause-walk g c = short_walk _
