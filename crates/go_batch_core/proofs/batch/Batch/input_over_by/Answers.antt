use Rattle.std.proofs.Common.{List, Option, length, sym, ap, ◌∙◌, subst}
use Rattle.go_package_core.specs.package_part.Parts.{PartModel}
use Rattle.go_snap_core.specs.whole_workspace.Inputs.{ComesTo, HasReached, IsInputAt}
use Rattle.go_batch_core.specs.Batches.{BatchModel, HasImports, IsReady}
use Rattle.go_block_core.specs.Naming.{AreInPackage}
use Rattle.go_block_core.specs.graph_core.Packages.{trees_of}
use Rattle.go_block_core.specs.graph_core.Plans.{AreReached, IsPlan, PlanModel}
use Rattle.go_batch_core.proofs.Steps.{assembled_at, has_reached}
use Rattle.go_batch_core.proofs.batch.Batch.input_over_by.Goals as goal

pub input_over-requires-clause-assembled : goal.input_over-requires-clause-assembled
input_over-requires-clause-assembled c =
    let i = c.self.inside in
    let ready = subst (λ (b : BatchModel). IsReady b c.args.place) (sym c.self.view_is) c.requires.ready in
    assembled_at i.sources i.slots.items i.parts c.args.place c.self.invariant.right ready.untaken

pub input_over-requires-clause-parts : goal.input_over-requires-clause-parts
input_over-requires-clause-parts c =
    let i = c.self.inside in
    let ready = subst (λ (b : BatchModel). IsReady b c.args.place) (sym c.self.view_is) c.requires.ready in
    subst (λ (l : List (Option PartModel)). HasReached i.sources l c.args.place) (sym c.as_slice-parts.ensures) (has_reached c.parts_come_in_order.ensures i.sources i.slots.items i.parts c.args.place c.self.invariant.right ready.imports)

pub returns : goal.returns
returns c =
    let i = c.self.inside in
    let input = subst (λ (l : List (Option PartModel)). IsInputAt i.sources l c.args.place c.in_ok-input.input) c.as_slice-parts.ensures c.in_ok-input.ensures in
    subst (λ (b : BatchModel). IsInputAt b.sources b.parts c.args.place c.in_ok-input.input) c.self.view_is input

pub input_over-requires-clause-plan : goal.input_over-requires-clause-plan
input_over-requires-clause-plan c =
    let i = c.self.inside in
    subst (IsPlan i.sources) (sym c.as_plan.ensures) c.self.invariant.plans.planned

pub input_over-requires-clause-reached : goal.input_over-requires-clause-reached
input_over-requires-clause-reached c =
    let i = c.self.inside in
    subst (λ (p : PlanModel). AreReached p c.get.result.now) (sym c.as_plan.ensures) (subst (AreReached i.plan) (sym c.get.ensures) c.self.invariant.plans.reached)

pub input_over-requires-clause-many : goal.input_over-requires-clause-many
input_over-requires-clause-many c = ap length c.get.ensures ∙ c.self.invariant.plans.many ∙ ap (λ (p : PlanModel). length p.outcomes) (sym c.as_plan.ensures)

pub input_over-requires-clause-numbered : goal.input_over-requires-clause-numbered
input_over-requires-clause-numbered c = (subst (λ (b : BatchModel). HasImports b c.args.place c.args.earlier.now) (sym c.self.view_is) c.requires.imports).numbered

pub input_over-requires-clause-imports : goal.input_over-requires-clause-imports
input_over-requires-clause-imports c =
    let i = c.self.inside in
    let e = c.args.earlier.now in
    let own = (subst (λ (b : BatchModel). HasImports b c.args.place e) (sym c.self.view_is) c.requires.imports).imports in
    subst (λ (l : List (Option PartModel)). AreInPackage (ComesTo i.sources l) c.args.place (trees_of e.source.1) e.imports) (sym c.as_slice-parts.ensures) own
