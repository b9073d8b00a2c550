use Rattle.std.proofs.Common.{ap, ◌∙◌}
use Rattle.go_type_core.proofs.Building.{faults_all, faults_kept, faults_left}
use Rattle.go_type_core.proofs.build.marked_faults.Goals as goal
use Rattle.go_type_core.proofs.build.marked_faults.Goals.{then-is_looped+in_ok-push, else-is_looped}

pub loop-entry-preserved : goal.loop-entry-preserved
loop-entry-preserved c = elim c.if-is_looped.branch [
  | then-is_looped+in_ok-push w ↦ faults_kept c.loop-entry.faults.items c.if-is_looped.faults.items c.args.looped.now c.loop-entry.entry _ c.loop-entry-test.true c.loop-entry.invariant w.if-is_looped.true (ap (λ v. v.items) w.faults-is ∙ w.in_ok-push.ensures.items)
  | else-is_looped w ↦ faults_left c.loop-entry.faults.items c.if-is_looped.faults.items c.args.looped.now c.loop-entry.entry _ c.loop-entry-test.true c.loop-entry.invariant w.if-is_looped.false (ap (λ v. v.items) w.faults-is)
]

pub returns : goal.returns
returns c = faults_all c.loop-entry.faults.items c.args.looped.now c.loop-entry.entry c.loop-entry-test.false c.loop-entry.invariant
