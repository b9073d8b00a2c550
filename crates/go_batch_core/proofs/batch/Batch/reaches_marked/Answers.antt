use Rattle.std.proofs.Common.{ℕ, List, sym, ap, ◌∙◌, subst}
use Rattle.std.specs.Prelude.{Contains, slice_get}
use Rattle.go_block_core.specs.graph_core.Workspaces.{PackageModel}
use Rattle.go_snap_core.specs.whole_workspace.Inputs.{ReachesPackage}
use Rattle.go_batch_core.specs.Batches.{BatchModel}
use Rattle.go_batch_core.proofs.Reaching.{in_reached}
use Rattle.go_batch_core.proofs.batch.Batch.reaches_marked.Goals as goal

pub returns : goal.returns
returns c unmarked m reaches marked =
    let i = c.self.inside in
    let at = ap (λ l. slice_get l c.args.place) (sym c.get.ensures) ∙ c.in-Some.ensures in
    let own : ReachesPackage i.sources c.args.place m = subst (λ (ps : List PackageModel). ReachesPackage ps c.args.place m) (sym (ap (λ (b : BatchModel). b.sources) c.self.view_is)) reaches in
    let has = in_reached i.sources i.plan i.reached c.args.place m c.in-Some.set.now c.self.invariant.plans at own in
    let there = subst (λ (l : List ℕ). Contains l m) (sym (c.deref.ensures.value ∙ c.in_ok-numbers.ensures.all)) has in
    c.any_marked.ensures unmarked m there marked
