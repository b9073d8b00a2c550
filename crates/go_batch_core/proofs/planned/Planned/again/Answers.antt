use Rattle.std.proofs.Common.{sym, subst}
use Rattle.go_batch_core.specs.Planning.{IsPlanned}
use Rattle.go_batch_core.proofs.Slots.{if_ok_both}
use Rattle.go_batch_core.proofs.planned.Planned.again.Goals as goal

pub returns : goal.returns
returns c =
    let old = c.args.self.now in
    let ps = c.args.sources.now in
    let whole : IsPlanned ps old.plan old.reached = record {
      well = c.packages-packages.ensures.well;
      planned = c.plans_stay.ensures c.args.earlier.now ps old.plan c.requires.planned.well c.packages-packages.ensures.well c.requires.heads c.requires.planned.planned;
      reached = c.requires.planned.reached;
      many = c.requires.planned.many;
    } in
    if_ok_both c.share.result c.share.ensures.plan c.share.ensures.reached (λ p plan sets. subst (λ r. IsPlanned ps p.plan r) (sym sets) (subst (λ q. IsPlanned ps q old.reached) (sym plan) whole))
