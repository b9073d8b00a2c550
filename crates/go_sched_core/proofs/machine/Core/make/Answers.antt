use Rattle.std.proofs.Common.{subst}
use Rattle.go_batch_core.specs.Batches.{with_part}
use Rattle.go_sched_core.specs.declared.change.Change.{Change}
use Rattle.go_sched_core.specs.mirrors.Fitting.{Fits}
use Rattle.go_sched_core.proofs.Commits.{published_last_step}
use Rattle.go_sched_core.proofs.machine.Core.make.Goals as goal

pub commit_publish_last-requires : goal.commit_publish_last-requires
commit_publish_last-requires c =
    let fits = subst (λ (x : Change). Fits c.args.self.now c.args.event.now x) c.in-PublishLast.is c.requires in
    (fits.r, with_part fits.r.batch fits.place fits.part, fits.finishing.running, fits.published)

pub returns-in-PublishLast-clause-step : goal.returns-in-PublishLast-clause-step
returns-in-PublishLast-clause-step c =
    let fits = subst (λ (x : Change). Fits c.args.self.now c.args.event.now x) c.in-PublishLast.is c.requires in
    published_last_step c.args.self.now c.args.event.now c.in-PublishLast.batches c.commit_publish_last.result c.commit_publish_last.new.self fits c.commit_publish_last.ensures.reply c.commit_publish_last.ensures.state
