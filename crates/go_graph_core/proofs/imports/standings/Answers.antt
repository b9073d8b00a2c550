use Rattle.std.proofs.Common.{◌+◌, sym, subst, List, take}
use Rattle.std.proofs.lemmas.List.{take_all}
use Rattle.go_graph_core.specs.declared.imports.Standing.{Standing}
use Rattle.go_graph_core.specs.Workspaces.{PackageModel}
use Rattle.go_graph_core.specs.mirrors.Targets.{IsStanding, HaveStandings}
use Rattle.go_graph_core.proofs.Zips.{zip_more}
use Rattle.go_graph_core.proofs.imports.standings.Goals as goal

pub loop-source-preserved : goal.loop-source-preserved
loop-source-preserved c =
    let more = zip_more IsStanding c.args.packages.now c.loop-source.standings.items c.loop-source.source-index c.source-item.result c.standing_of.result c.loop-source-test.true c.source-item.is c.loop-source.invariant c.standing_of.ensures in
    subst (λ (l : List Standing). HaveStandings (take (c.loop-source.source-index + 1) c.args.packages.now) l) (sym c.in_ok-push.ensures.items) more

pub returns : goal.returns
returns c = subst (λ (l : List PackageModel). HaveStandings l c.loop-source.standings.items) (take_all c.loop-source.source-index c.args.packages.now c.loop-source-test.false) c.loop-source.invariant
