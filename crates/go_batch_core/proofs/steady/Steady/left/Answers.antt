use Rattle.std.proofs.Common.{sym, ap, ◌∙◌, subst}
use Rattle.go_block_core.specs.graph_core.Workspaces.{IsWorkspace}
use Rattle.go_snap_core.specs.Staying.{StaysWhere}
use Rattle.go_batch_core.specs.Steadiness.{SteadyModel}
use Rattle.go_batch_core.proofs.Leaving.{left_stays}
use Rattle.go_batch_core.proofs.steady.Steady.left.Goals as goal

pub returns : goal.returns
returns c =
    let s = c.args.snapshot.now in
    let t = c.args.current.now in
    let well = subst IsWorkspace c.sources.ensures.value c.packages-packages.ensures.well in
    subst (StaysWhere s t) (sym (c.deref.ensures.value ∙ ap (λ (m : SteadyModel). m.kept) c.self.view_is))
    (left_stays c.one_part.ensures s t c.args.self.now.kept well c.sources-earlier.ensures.whole.made c.sources.ensures.whole.made c.requires)
