use Rattle.std.proofs.Common.{List, sym, ◌∙◌, subst}
use Rattle.go_graph_core.specs.Workspaces.{PackageModel}
use Rattle.go_snap_core.specs.Snapshots.{IsSnapshot, snapshot_with}
use Rattle.go_submit_core.proofs.laws.one_worker.Goals as goal

pub returns : goal.returns
returns c = λ ps one other well a b.
    let mine = subst (λ (l : List PackageModel). IsSnapshot l one.parts one.faults) a.sources a.whole in
    let theirs = subst (λ (l : List PackageModel). IsSnapshot l other.parts other.faults) b.sources b.whole in
    let same = c.one_snapshot.ensures ps one.parts other.parts one.faults other.faults well mine theirs in
    (λ i. snapshot_with ((a.sources ∙ sym b.sources) i) (same.0 i) (same.1 i))
