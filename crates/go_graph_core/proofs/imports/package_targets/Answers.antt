use Rattle.std.proofs.Common.{◌+◌, sym, subst, List, ℕ, take, Vec}
use Rattle.std.specs.List.{AllZip}
use Rattle.std.specs.declared.alloc.Global.{Global}
use Rattle.go_graph_core.specs.declared.imports.ImportOutcome.{ImportOutcome}
use Rattle.go_graph_core.specs.Sources.{SourceModel}
use Rattle.go_graph_core.specs.Imports.{IsTarget, import_texts}
use Rattle.go_graph_core.specs.mirrors.Targets.{ArePackageTargets}
use Rattle.go_graph_core.proofs.Zips.{zip_more}
use Rattle.go_graph_core.proofs.imports.package_targets.Goals as goal

pub loop-file-preserved : goal.loop-file-preserved
loop-file-preserved c =
    let ps = c.args.packages.now in
    let q = c.args.source.now.0 in
    let here = subst (λ (p : List ℕ). AllZip (IsTarget ps p) (import_texts c.file-item.result) c.in_ok-file_targets.field-0.items) c.path-from.ensures c.in_ok-file_targets.ensures in
    let more = zip_more (λ (f : SourceModel) (os : Vec ImportOutcome Global). AllZip (IsTarget ps q) (import_texts f) os.items) c.files-file-items.result.now c.loop-file.targets.items c.loop-file.file-index c.file-item.result c.in_ok-file_targets.field-0 c.loop-file-test.true c.file-item.is c.loop-file.invariant here in
    subst (λ (l : List (Vec ImportOutcome Global)). ArePackageTargets ps (q, take (c.loop-file.file-index + 1) c.files-file-items.result.now) l) (sym {A = List (Vec ImportOutcome Global)} c.in_ok-add.ensures) more
