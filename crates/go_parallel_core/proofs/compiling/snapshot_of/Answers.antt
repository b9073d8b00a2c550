use Rattle.std.proofs.Common.{List, subst, ◌∙◌}
use Rattle.go_block_core.specs.graph_core.Workspaces.{PackageModel}
use Rattle.go_snap_core.specs.Snapshots.{IsSnapshot}
use Rattle.go_parallel_core.proofs.compiling.snapshot_of.Goals as goal

pub returns-clause-whole : goal.returns-clause-whole
returns-clause-whole c =
    let made = c.in_ok-snapshot.snapshot in
    subst (λ (ps : List PackageModel). IsSnapshot ps made.parts made.faults) (c.in_ok-snapshot.ensures.sources ∙ c.requires.sources) c.in_ok-snapshot.ensures.whole
