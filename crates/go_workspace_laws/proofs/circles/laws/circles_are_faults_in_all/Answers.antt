use Rattle.go_workspace_laws.proofs.CirclesRounds.{circles_are_faults_in_all}
use Rattle.go_workspace_laws.proofs.circles.laws.circles_are_faults_in_all.Goals as goal

pub returns : goal.returns
returns c = circles_are_faults_in_all c.loops_are_faults.ensures c.check_is_local.ensures c.imports_bind_theirs.ensures
