use Rattle.std.proofs.Common.{sym, ap, subst, length, arith}
use Rattle.std.specs.Vec.Iter.{into_iter_items}
use Rattle.go_graph_core.proofs.Places.{IsOrdered}
use Rattle.go_graph_core.proofs.Keeping.{put_one, ordered_insert}
use Rattle.go_graph_core.proofs.workspace.put_each.Goals as goal

pub loop-package-preserved : goal.loop-package-preserved
loop-package-preserved c =
    let at = c.loop-package in
    let e = c.in-Ok.ensures.ok in
    let fewer = ap length c.in-Some.ensures.steps.0 in (
      put_one at.packages.items c.put_at.new.packages.items c.in-Some.«package» (into_iter_items c.next.new.self) (into_iter_items at.package-iterator) _ c.in-Some.ensures.steps.0 e at.invariant.0,
      subst IsOrdered (sym e) (ordered_insert at.packages.items c.in-Some.«package».0 c.in-Some.«package».1 at.invariant.1),
      omega (arith, fewer, at.invariant.2, c.in-Ok.ensures.len, c.in-Ok.ensures.capacity),
    )
