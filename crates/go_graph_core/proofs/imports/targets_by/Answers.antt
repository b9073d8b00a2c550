use Rattle.std.proofs.Common.{◌+◌, sym, subst, List, take, Vec}
use Rattle.std.specs.List.{AllZip}
use Rattle.std.specs.declared.alloc.Global.{Global}
use Rattle.go_graph_core.specs.declared.imports.ImportOutcome.{ImportOutcome}
use Rattle.go_graph_core.specs.Workspaces.{PackageModel}
use Rattle.go_graph_core.specs.mirrors.Targets.{ArePackageTargets}
use Rattle.go_graph_core.proofs.Zips.{zip_more}
use Rattle.go_graph_core.proofs.imports.targets_by.Goals as goal

pub loop-source-preserved : goal.loop-source-preserved
loop-source-preserved c =
    let ps = c.args.packages.now in
    let more = zip_more (λ (p : PackageModel) (os : Vec (Vec ImportOutcome Global) Global). ArePackageTargets ps p os.items) ps c.loop-source.targets.items c.loop-source.source-index c.source-item.result c.in_ok-package_targets.field-0 c.loop-source-test.true c.source-item.is c.loop-source.invariant c.in_ok-package_targets.ensures in
    subst (λ (l : List (Vec (Vec ImportOutcome Global) Global)). AllZip (λ p os. ArePackageTargets ps p os.items) (take (c.loop-source.source-index + 1) ps) l) (sym {A = List (Vec (Vec ImportOutcome Global) Global)} c.in_ok-add.ensures) more
