use Rattle.std.proofs.Common.{All, subst}
use Rattle.go_site_core.specs.graph_core.Workspaces.{AreAllRead}
use Rattle.test_snapshot.proofs.Fitting.{input_is_read}
use Rattle.test_snapshot.proofs.comparing.input_at.Goals as goal

pub returns : goal.returns
returns c =
    let s = c.args.snapshot.now in
    let all = subst (All AreAllRead) c.sources.ensures.value c.packages-packages.ensures.read in
    input_is_read s.sources s.parts c.sources.ensures.whole.made all c.args.path.now c.input.result c.input.ensures
