use Rattle.std.proofs.Common.{List, sym, ap, ◌∙◌, subst}
use Rattle.std.specs.Prelude.{slice_get}
use Rattle.go_block_core.specs.graph_core.Workspaces.{PackageModel}
use Rattle.go_snap_core.specs.whole_workspace.Inputs.{IsInputAt}
use Rattle.go_batch_core.specs.Batches.{BatchModel}
use Rattle.go_batch_core.proofs.Once.{local_at}
use Rattle.go_batch_core.proofs.Steps.{read_at}
use Rattle.go_batch_core.proofs.batch.Batch.next_known.Goals as goal

pub known-requires-clause-read : goal.known-requires-clause-read
known-requires-clause-read c =
    let i = c.self.inside in
    let at = ap (λ (l : List PackageModel). slice_get l c.args.place) (ap (λ (b : BatchModel). b.sources) c.self.view_is) ∙ c.requires.input.numbered in
    read_at i.sources c.args.place c.args.part.input.source c.packages-packages.ensures.read at

pub known-requires-clause-local : goal.known-requires-clause-local
known-requires-clause-local c =
    let i = c.self.inside in
    let at = subst (λ (b : BatchModel). IsInputAt b.sources b.parts c.args.place c.args.part.input) (sym c.self.view_is) c.requires.input in
    local_at i.sources i.slots.items i.parts c.self.invariant.plans.well c.self.invariant.right c.inputs_are_local.ensures i.plan c.self.invariant.plans.planned c.args.place c.args.part.input at

pub returns-clause-next : goal.returns-clause-next
returns-clause-next c = record {
  ready = c.requires.ready;
  input = subst (IsInputAt c.args.self.now.sources c.args.self.now.parts c.args.place) (sym c.in_ok-input.ensures) c.requires.input;
  awaited = c.in_ok-awaited.ensures ∙ (c.input.ensures ∙ sym c.in_ok-input.ensures);
}
