use Rattle.std.proofs.Common.{◌≡◌, []}
use Rattle.go_graph_core.specs.Plans.{plan_of}
use Rattle.go_snap_core.specs.whole_workspace.mirrors.Steps.{SoFar}
use Rattle.go_snap_core.specs.make.Keeping.{AreKept, AreMarked}
use Rattle.go_snap_core.specs.make.Telling.{told_of}
use Rattle.go_snap_core.proofs.make.making.make_all.Given as goal

abbrev pub invariant-loop-number : goal.invariant-loop-number
invariant-loop-number l =
    SoFar l.workspace (plan_of [] l.number-items) l.number-index l.parts l.seen.types l.seen.shown l.seen.faces × (l.told ≡ told_of l.parts) × AreMarked l.earlier l.parts l.marks.again.items
    × AreKept l.earlier l.parts l.marks.kept.items
