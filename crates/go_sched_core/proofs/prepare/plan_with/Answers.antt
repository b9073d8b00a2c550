use Rattle.std.proofs.Common.{refl, ◌∙◌}
use Rattle.go_sched_core.proofs.Outside.{same_but_trees}
use Rattle.go_sched_core.proofs.prepare.plan_with.Goals as goal

pub plan_over-requires-clause-outside : goal.plan_over-requires-clause-outside
plan_over-requires-clause-outside c =
    let earlier = c.args.snapshot.now.sources in
    same_but_trees earlier earlier c.args.sources.now c.args.submissions.now c.as_slice.result.now c.requires.planned.well c.packages-packages.ensures.well refl c.requires.sources (c.as_slice.ensures.value ∙ c.in_ok-modules.ensures)
