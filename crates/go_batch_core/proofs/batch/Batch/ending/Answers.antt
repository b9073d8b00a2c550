use Rattle.std.proofs.Common.{◌≡◌, sym, ap, ◌∙◌, subst}
use Rattle.go_package_core.specs.package_part.Parts.{PartModel}
use Rattle.go_batch_core.specs.Batches.{Awaits, tell}
use Rattle.go_batch_core.proofs.batch.Batch.ending.Goals as goal

pub returns-clause-ends : goal.returns-clause-ends
returns-clause-ends c =
    let n = c.args.place in
    let p : PartModel = c.in_ok-part.part in
    let part : p ≡ c.args.part.now = c.in_ok-part.ensures ∙ c.get.ensures.value in
    record {
      number = c.requires.0;
      awaits = subst (λ (q : PartModel). Awaits c.args.self.now n c.requires.0 q) (sym part) c.requires.1;
      tells = ap (tell n) c.in_ok-share.ensures;
    }
