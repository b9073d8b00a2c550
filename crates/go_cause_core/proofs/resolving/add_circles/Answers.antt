use Rattle.std.proofs.Common.{length, subst, sym}
use Rattle.go_digraph_core.specs.cycle.Cycle.{InRange}
use Rattle.go_cause_core.proofs.resolving.add_circles.Goals as goal

pub rank_and_order-requires : goal.rank_and_order-requires
rank_and_order-requires c = subst (InRange (length c.args.faults.now)) (sym c.deref.ensures.value) c.in_ok-edges.ensures
