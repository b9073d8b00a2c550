use Rattle.std.proofs.Common.{take}
use Rattle.go_headline_laws.specs.separation.Laws.{AreHandedIn}
use Rattle.go_headline_laws.proofs.separation.handed.are_handed_in.Given as goal

abbrev pub invariant-loop-event : goal.invariant-loop-event
invariant-loop-event l = AreHandedIn (take l.event-index l.events)
