use Rattle.std.proofs.Common.{sym, ◌∙◌, arith}
use Rattle.go_sched_core.specs.declared.event.Event.TheVariants.{Open}
use Rattle.go_sched_core.specs.declared.event.Reply.TheVariants.{Opened}
use Rattle.go_hall_core.proofs.Pushes.{opened_room}
use Rattle.go_hall_core.proofs.Stamps.{recorded_stamped}
use Rattle.go_hall_core.proofs.counted.Counted.open.Goals as goal

pub split_off-share-requires-clause-has_parts : goal.split_off-share-requires-clause-has_parts
split_off-share-requires-clause-has_parts g c =
    let room = opened_room c.self.inside.state c.open.new.self c.args.own c.in_ok-id.id c.self.inside.rest.parts g.L.Named.all c.in_ok-id.ensures.ok c.in_ok-id.ensures.few c.self.invariant.2 c.self.invariant.3 in
    room.0

pub invariant_of-self-2 : goal.invariant_of-self-2
invariant_of-self-2 g c =
    let room = opened_room c.self.inside.state c.open.new.self c.args.own c.in_ok-id.id c.self.inside.rest.parts g.L.Named.all c.in_ok-id.ensures.ok c.in_ok-id.ensures.few c.self.invariant.2 c.self.invariant.3 in
    (c.self.invariant.0 ∙ sym room.2, omega (arith, c.split_off-share.ensures.amount_left, c.self.invariant.1), omega (arith, room.0, room.1, c.split_off-share.ensures.parts_left, c.self.invariant.2), c.self.invariant.3, recorded_stamped c.self.inside.stamper c.self.inside.state c.open.new.self (Open c.args.own) (Opened c.in_ok-id.id) c.in_ok-id.ensures.ok.1 c.self.invariant.4)
