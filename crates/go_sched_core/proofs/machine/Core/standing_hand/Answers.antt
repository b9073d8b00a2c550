use Rattle.std.proofs.Common.{rules, Some, true, false, refl, ap, subst}
use Rattle.go_submit_core.specs.snap_core.Snapshots.{SnapshotModel}
use Rattle.go_batch_core.specs.Steadiness.{StandsAt}
use Rattle.go_sched_core.specs.declared.change.Hand.{Hand}
use Rattle.go_sched_core.proofs.Marking.{standing_hand}
use Rattle.go_sched_core.proofs.machine.Core.standing_hand.Goals as goal

pub returns : goal.returns
returns c =
    let last = c.args.last.now in
    let b = c.args.batch.now in
    let p = c.in-Some.part.now in
    let there : StandsAt c.get-snapshot.result.now b c.args.place p = search rules in
    let stands : StandsAt last.snapshot b c.args.place p = subst (λ (s : SnapshotModel). StandsAt s b c.args.place p) c.get-snapshot.ensures there in
    let h : Hand = record { next = c.in_ok-next.next; earlier = Some c.in_ok-earlier.earlier; kept = false; stood = true; other = true } in
    standing_hand c.args.self.now.published last b h c.args.place p c.requires.last stands c.in_ok-next.ensures.made c.in_ok-next.ensures.next c.in_ok-next.ensures.place (ap Some c.in_ok-earlier.ensures) refl
