use Rattle.go_workspace_laws.proofs.CirclesCircles.{circles_are_faults}
use Rattle.go_workspace_laws.proofs.circles.laws.circles_are_faults.Goals as goal

pub returns : goal.returns
returns c = circles_are_faults c.loops_are_faults.ensures c.check_is_local.ensures c.imports_bind_theirs.ensures
