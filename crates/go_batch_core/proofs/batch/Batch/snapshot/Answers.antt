use Rattle.std.proofs.Common.{◌≡◌, List, Option, sym, ap, ◌∙◌, subst}
use Rattle.go_block_core.specs.graph_core.Workspaces.{PackageModel}
use Rattle.go_package_core.specs.package_part.Parts.{PartModel}
use Rattle.go_snap_core.specs.whole_workspace.Inputs.{AreParts}
use Rattle.go_batch_core.specs.Batches.{actions_left, unfinished}
use Rattle.go_batch_core.proofs.Steps.{all_parts}
use Rattle.go_batch_core.proofs.batch.Batch.snapshot.Goals as goal

pub joined-requires : goal.joined-requires
joined-requires c =
    let i = c.self.inside in
    let none : unfinished i.slots.items ≡ 0 = ap actions_left c.self.view_is ∙ c.requires in
    subst (λ (ps : List PackageModel). AreParts ps c.in_ok-parts.parts) (sym c.in_ok-sources.ensures.same) (subst (λ (l : List (Option PartModel)). AreParts i.sources l) (sym c.in_ok-parts.ensures) (all_parts c.parts_come_in_order.ensures i.sources i.slots.items i.parts c.self.invariant.right none))
