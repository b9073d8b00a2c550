use Rattle.std.proofs.Common.{take}
use Rattle.go_batch_core.specs.seen.Sights.{AreSeen, AreWithReached}
use Rattle.go_batch_core.proofs.seen.sight.add_reached.Given as goal

abbrev pub invariant-loop-number : goal.invariant-loop-number
invariant-loop-number l = AreSeen l.told.items l.view.types l.view.shown l.view.faces × AreWithReached l.initial.told.items (take l.number l.reached) l.told.items
