use Rattle.std.proofs.Common.{All, subst}
use Rattle.std.proofs.lemmas.Result.{IfErr-weaker, IfOk-weaker}
use Rattle.go_import_core.specs.graph_core.Workspaces.{AreAllRead}
use Rattle.go_complete_core.specs.package_core.PackagePartInputs.{IsInput}
use Rattle.go_complete_core.specs.snap_core.Snapshots.{file_in_shown}
use Rattle.go_query_core.proofs.Using.{has_occurrences, is_defined, is_lacking, is_refusal}
use Rattle.go_query_core.proofs.defining.define.Goals as goal

pub define_in-requires : goal.define_in-requires
define_in-requires c =
    let s = c.args.snapshot.now in
    let all = subst (All AreAllRead) c.sources.ensures.value c.packages-packages.ensures.read in
    has_occurrences s all c.sources.ensures.whole c.args.path.now c.args.file.now (file_in_shown c.in-Some.found) c.in-Some.ensures c.part_has_occurrences.ensures (subst IsInput c.input.ensures c.imports-imports.ensures.well)

pub returns-in-Some-clause-ok : goal.returns-in-Some-clause-ok
returns-in-Some-clause-ok c = IfOk-weaker c.define_in.result _ _ (λ site h. is_defined c.args.snapshot.now c.args.path.now c.args.file.now c.args.offset (file_in_shown c.in-Some.found) c.in-Some.ensures site.now h) c.define_in.ensures.ok

pub returns-in-Some-clause-err : goal.returns-in-Some-clause-err
returns-in-Some-clause-err c = IfErr-weaker c.define_in.result _ _ (λ rule h. is_refusal c.args.snapshot.now c.args.path.now c.args.file.now c.args.offset (file_in_shown c.in-Some.found) c.in-Some.ensures rule h) c.define_in.ensures.err

pub returns-in-None-clause-err : goal.returns-in-None-clause-err
returns-in-None-clause-err c = is_lacking c.args.snapshot.now c.args.path.now c.args.file.now c.args.offset c.in-None.ensures c.lacking.result c.lacking.ensures
