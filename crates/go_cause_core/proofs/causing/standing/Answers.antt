use Rattle.go_cause_core.proofs.Directly.{are_causes_given, inside_given}
use Rattle.go_cause_core.proofs.causing.standing.Goals as goal

pub roots-requires : goal.roots-requires
roots-requires c = inside_given _ _ _ c.deref.ensures.value c.in_ok-direct.ensures

pub returns : goal.returns
returns c = are_causes_given _ _ _ _ c.deref.ensures.value c.in_ok-direct.ensures c.in_ok-causes.ensures.exact c.in_ok-causes.ensures.roots
