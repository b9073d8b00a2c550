use Rattle.std.proofs.Common.{subst}
use Rattle.std.proofs.lemmas.List.{take_all}
use Rattle.std.proofs.lemmas.List.Elements.{All-more}
use Rattle.go_sched_core.specs.declared.event.Event.{Event}
use Rattle.go_headline_laws.specs.separation.Laws.{AreHandedIn, IsHandedIn}
use Rattle.go_headline_laws.proofs.separation.handed.are_handed_in.Goals as goal

pub loop-event-preserved : goal.loop-event-preserved
loop-event-preserved c =
    let e : Event = c.event-item.result in
    All-more IsHandedIn c.args.events.now c.loop-event.event-index e c.loop-event-test.true c.loop-event.invariant (subst IsHandedIn c.event-item.is c.is_handed_in.ensures)

pub returns : goal.returns
returns c = subst AreHandedIn (take_all c.loop-event.event-index c.args.events.now c.loop-event-test.false) c.loop-event.invariant
