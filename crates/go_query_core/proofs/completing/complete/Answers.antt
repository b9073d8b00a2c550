use Rattle.std.proofs.Common.{All, subst}
use Rattle.std.proofs.lemmas.Result.{IfErr-weaker, IfOk-weaker}
use Rattle.go_import_core.specs.graph_core.Workspaces.{AreAllRead}
use Rattle.go_complete_core.specs.package_core.PackagePartInputs.{IsInput}
use Rattle.go_complete_core.specs.place.Completions.{texts_of}
use Rattle.go_complete_core.specs.snap_core.Snapshots.{file_in_shown}
use Rattle.go_query_core.proofs.Spotted.{exports_shown, has_spots, is_completion, is_unasked, lacks_it}
use Rattle.go_query_core.proofs.completing.complete.Goals as goal

pub complete_in-requires-clause-spots : goal.complete_in-requires-clause-spots
complete_in-requires-clause-spots c =
    let s = c.args.snapshot.now in
    let all = subst (All AreAllRead) c.sources.ensures.value c.packages-packages.ensures.read in
    has_spots s all c.sources.ensures.whole c.args.path.now c.args.file.now (file_in_shown c.in-Some.found) c.in-Some.ensures c.part_has_occurrences.ensures (subst IsInput c.input.ensures c.imports-imports.ensures.well)

pub complete_in-requires-clause-exports : goal.complete_in-requires-clause-exports
complete_in-requires-clause-exports c =
    let s = c.args.snapshot.now in
    let all = subst (All AreAllRead) c.sources.ensures.value c.packages-packages.ensures.read in
    exports_shown s all c.sources.ensures.whole c.args.path.now c.args.file.now (file_in_shown c.in-Some.found) c.in-Some.ensures

pub returns-in-Some-clause-ok : goal.returns-in-Some-clause-ok
returns-in-Some-clause-ok c = IfOk-weaker c.complete_in.result _ _ (λ r h. is_completion c.args.snapshot.now c.args.path.now c.args.file.now c.args.offset (file_in_shown c.in-Some.found) c.in-Some.ensures (texts_of r) h) c.complete_in.ensures.ok

pub returns-in-Some-clause-err : goal.returns-in-Some-clause-err
returns-in-Some-clause-err c = IfErr-weaker c.complete_in.result _ _ (λ rule h. is_unasked c.args.snapshot.now c.args.path.now c.args.file.now c.args.offset (file_in_shown c.in-Some.found) c.in-Some.ensures rule h) c.complete_in.ensures.err

pub returns-in-None-clause-err : goal.returns-in-None-clause-err
returns-in-None-clause-err c = lacks_it c.args.snapshot.now c.args.path.now c.args.file.now c.args.offset c.in-None.ensures c.lacking.result c.lacking.ensures
